use Rattle.std.proofs.Common.{sym, ◌∙◌, ap, ◌+◌, ◌*◌}
use Rattle.zx_bits.specs.Internal.Words.{digit}
use Rattle.zx_bits.proofs.SetLemmas.{members_are}
use Rattle.zx_bits.proofs.WindowLemmas.{is_set-in_word}
use Rattle.zx_bits.proofs.bit_set.BitSet.word.Goals as goal

pub returns : goal.returns
returns c k lt =
    ap (λ n. digit n k) c.word.ensures ∙ sym (is_set-in_word c.self.inside.window c.args.index k lt)
    ∙ sym (ap (λ f. f (64 * c.args.index + k)) (members_are c.self.inside.window c.args.self.now c.self.view_is))
