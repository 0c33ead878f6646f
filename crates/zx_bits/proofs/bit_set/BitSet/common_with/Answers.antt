use Rattle.std.proofs.Common.{sym, ◌∙◌, ap, ap₂, count_by}
use Rattle.zx_bits.proofs.SetLemmas.{members_are}
use Rattle.zx_bits.proofs.bit_set.BitSet.common_with.Goals as goal

pub returns : goal.returns
returns c =
    c.count_common.ensures
    ∙ ap₂ count_by (sym (members_are c.other.inside.window c.args.other.now c.other.view_is)) (ap (λ s. s.numbers) c.self.view_is)
