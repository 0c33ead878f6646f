use Rattle.std.proofs.Common.{◌≡◌, sym, ◌∙◌, ap, ◌<◌, length, arith}
use Rattle.zx_bits.specs.Rows.{flipped}
use Rattle.zx_bits.specs.Solving.{zeros}
use Rattle.zx_bits.specs.Internal.Elimination.{Summed, reduced}
use Rattle.zx_bits.proofs.Vectors.{length-zeros, length-flipped}
use Rattle.zx_bits.proofs.Eliminating.{sizes_along, reduced_along}
use Rattle.zx_bits.proofs.Solutions.{next_row, basis_next}
use Rattle.zx_bits.proofs.solving.basis_of.Goals as goal

pub reduce-requires : goal.reduce-requires
reduce-requires c =
    sizes_along (sym (ap length c.in_ok-row.ensures.cases ∙ c.row.ensures.length))
    (sym (ap length (c.flip.ensures ∙ ap (λ l. flipped l c.loop-i.i) c.in_ok-from.ensures) ∙ length-flipped (zeros c.height.result) c.loop-i.i ∙ length-zeros c.height.result ∙ c.height.ensures.value))
    (sym c.deref.ensures.value) c.loop-i.invariant.sizes

pub loop-i-preserved : goal.loop-i-preserved
loop-i-preserved c =
    let m = c.args.m.now in
    let lt : c.loop-i.i < length m.rows = omega (arith, c.loop-i-test.true, c.height-i-end.ensures.value) in
    let is : ◌≡◌ {A = Summed} (record { row = c.reduce.new.row.bits; from = c.reduce.new.from.bits }) (reduced c.loop-i.basis.items (next_row m c.loop-i.i)) =
    reduced_along c.deref.ensures.value (c.in_ok-row.ensures.cases ∙ c.row.ensures.bits)
    (c.flip.ensures ∙ ap (λ l. flipped l c.loop-i.i) (c.in_ok-from.ensures ∙ ap zeros c.height.ensures.value)) c.reduce.ensures in
    basis_next m (λ r l. c.height.ensures.each r (omega (arith, c.height.ensures.value))) c.loop-i.i lt c.loop-i.basis.items c.loop-i.invariant
    c.reduce.new.row.bits c.reduce.new.from.bits c.keep.new.basis.items (ap (λ v. v.row) is) (ap (λ v. v.from) is) c.in_ok-keep.ensures
