use Rattle.std.proofs.Common.{◌≡◌, sym, ◌∙◌, ap, subst, length, arith}
use Rattle.zx_model.specs.Bits.{bit}
use Rattle.zx_bits.specs.Rows.{flipped}
use Rattle.zx_bits.specs.Solving.{zeros, IsSolution, IsDual}
use Rattle.zx_bits.specs.Internal.Elimination.{Summed, reduced, dual_of, HasSizes}
use Rattle.zx_bits.proofs.Vectors.{length-zeros, place_within}
use Rattle.zx_bits.proofs.Eliminating.{sizes_along, lengths_reduced, reduced_along}
use Rattle.zx_bits.proofs.Solutions.{target_row, solution_is, dual_is}
use Rattle.zx_bits.proofs.solving.solve.Goals as goal

pub reduce-requires : goal.reduce-requires
reduce-requires c =
    sizes_along (sym c.requires ∙ ap length (sym c.in_ok-rest.ensures.cases))
    (sym (ap length c.in_ok-set.ensures ∙ length-zeros c.height.result ∙ c.height.ensures.value)) (sym c.deref.ensures.value) c.in_ok-basis.ensures.sizes

pub dual-requires-clause-sizes : goal.dual-requires-clause-sizes
dual-requires-clause-sizes c = subst (HasSizes c.args.m.now.columns (length c.args.m.now.rows)) (sym c.deref-in-Some.ensures.value) c.in_ok-basis.ensures.sizes

pub dual-requires-clause-column : goal.dual-requires-clause-column
dual-requires-clause-column c =
    let m = c.args.m.now in
    let lengths = lengths_reduced m.columns (length m.rows) c.in_ok-basis.basis.items (target_row m c.args.target.now.bits) c.in_ok-basis.ensures.sizes (c.requires, length-zeros (length m.rows)) in
    let is : ◌≡◌ {A = Summed} (record { row = c.reduce.new.row.bits; from = c.reduce.new.from.bits }) (reduced c.in_ok-basis.basis.items (target_row m c.args.target.now.bits)) =
    reduced_along c.deref.ensures.value c.in_ok-rest.ensures.cases (c.in_ok-set.ensures ∙ ap zeros c.height.ensures.value) c.reduce.ensures in
    omega (arith, place_within c.reduce.new.row.bits c.in-Some.column c.in-Some.ensures.1, ap (λ v. length v.row) is, lengths.0)

pub returns-in-None : goal.returns-in-None
returns-in-None c =
    let m = c.args.m.now in
    let is : ◌≡◌ {A = Summed} (record { row = c.reduce.new.row.bits; from = c.reduce.new.from.bits }) (reduced c.in_ok-basis.basis.items (target_row m c.args.target.now.bits)) =
    reduced_along c.deref.ensures.value c.in_ok-rest.ensures.cases (c.in_ok-set.ensures ∙ ap zeros c.height.ensures.value) c.reduce.ensures in
    subst (IsSolution m c.args.target.now.bits) (ap (λ v. v.from) (sym is))
    (solution_is m (λ r lt. c.height.ensures.each r (omega (arith, c.height.ensures.value))) c.args.target.now.bits c.requires c.in_ok-basis.basis.items c.in_ok-basis.ensures
    (λ k. ap (λ v. bit v.row k) (sym is) ∙ c.in-None.ensures k (omega arith)))

pub returns : goal.returns
returns c =
    let m = c.args.m.now in
    let is : ◌≡◌ {A = Summed} (record { row = c.reduce.new.row.bits; from = c.reduce.new.from.bits }) (reduced c.in_ok-basis.basis.items (target_row m c.args.target.now.bits)) =
    reduced_along c.deref.ensures.value c.in_ok-rest.ensures.cases (c.in_ok-set.ensures ∙ ap zeros c.height.ensures.value) c.reduce.ensures in
    subst (IsDual m c.args.target.now.bits)
    (sym (c.in_ok-dual-in-Some.ensures ∙ ap (λ l. dual_of l (flipped (zeros m.columns) c.in-Some.column)) c.deref-in-Some.ensures.value))
    (dual_is m (λ r lt. c.height.ensures.each r (omega (arith, c.height.ensures.value))) c.args.target.now.bits c.requires c.in_ok-basis.basis.items c.in_ok-basis.ensures c.in-Some.column
    (ap (λ v. bit v.row c.in-Some.column) (sym is) ∙ c.in-Some.ensures.1))
