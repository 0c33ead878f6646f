use Rattle.std.proofs.Common.{sym, ◌∙◌, ap}
use Rattle.zx_bits.proofs.RowLemmas.{bits_are}
use Rattle.zx_bits.proofs.bit_row.BitRow.get.Goals as goal

pub returns : goal.returns
returns c = c.is_set.ensures ∙ sym (ap (λ f. f c.args.i) (bits_are c.self.inside.len c.self.inside.window c.args.self.now c.self.view_is c.self.invariant))
