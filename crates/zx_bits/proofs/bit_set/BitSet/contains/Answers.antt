use Rattle.std.proofs.Common.{sym, ◌∙◌, ap}
use Rattle.zx_bits.proofs.SetLemmas.{members_are}
use Rattle.zx_bits.proofs.bit_set.BitSet.contains.Goals as goal

pub returns : goal.returns
returns c = c.is_set.ensures ∙ sym (ap (λ f. f c.args.number) (members_are c.self.inside.window c.args.self.now c.self.view_is))
