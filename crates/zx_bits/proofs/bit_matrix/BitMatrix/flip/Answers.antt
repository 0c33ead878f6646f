use Rattle.std.proofs.Common.{◌≡◌, ◌∙◌, ap, length, get_or, arith}
use Rattle.std.proofs.lemmas.List.Elements.{All-set}
use Rattle.zx_bits.specs.Rows.{row_at, flipped}
use Rattle.zx_bits.proofs.Vectors.{length-flipped}
use Rattle.zx_bits.proofs.MatrixLemmas.{count_is, row_is, view_set}
use Rattle.zx_bits.proofs.bit_matrix.BitMatrix.flip.Goals as goal

pub invariant_of-self : goal.invariant_of-self
invariant_of-self c =
    let old = c.index_mut.result.now in
    let read : old ≡ get_or c.self.inside.rows.items c.args.r old = c.index_mut.ensures.value in
    All-set (λ row. length row.bits ≡ c.self.inside.columns) c.self.inside.rows.items c.args.r c.flip.new.self
    (ap length c.flip.ensures ∙ length-flipped old.bits c.args.c
    ∙ ap (λ b. length b.bits) read
    ∙ c.self.invariant c.args.r old (omega (arith, c.requires.row, count_is c.self.inside.columns c.self.inside.rows.items c.args.self.now c.self.view_is)))
    c.self.invariant

pub returns : goal.returns
returns c =
    view_set c.self.inside.columns c.self.inside.rows.items c.args.self.now c.self.view_is c.args.r c.flip.new.self (flipped (row_at c.args.self.now c.args.r) c.args.c)
    (c.flip.ensures ∙ ap (λ l. flipped l c.args.c) (row_is c.self.inside.columns c.self.inside.rows.items c.args.self.now c.self.view_is c.args.r c.index_mut.result.now c.requires.row c.index_mut.ensures.value))
