use Rattle.std.proofs.Common.{sym, subst}
use Rattle.zx_bits.specs.Rows.{IsFirstFrom}
use Rattle.zx_bits.proofs.RowLemmas.{bits_are}
use Rattle.zx_bits.proofs.bit_row.BitRow.bit_from.Goals as goal

pub returns : goal.returns
returns c =
    subst (λ f. IsFirstFrom f c.args.i c.first_from.result) (sym (bits_are c.self.inside.len c.self.inside.window c.args.self.now c.self.view_is c.self.invariant)) c.first_from.ensures
