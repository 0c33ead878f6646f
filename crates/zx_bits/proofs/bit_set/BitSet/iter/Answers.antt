use Rattle.std.proofs.Common.{◌∙◌, ap, subst}
use Rattle.zx_bits.specs.Sets.{IsRising}
use Rattle.zx_bits.proofs.SetLemmas.{rising_places}
use Rattle.zx_bits.proofs.bit_set.BitSet.iter.Goals as goal

pub returns-clause-value : goal.returns-clause-value
returns-clause-value c = c.of_window.ensures ∙ ap (λ s. s.numbers) c.self.view_is

pub returns-clause-rising : goal.returns-clause-rising
returns-clause-rising c = subst IsRising (ap (λ s. s.numbers) c.self.view_is) (rising_places c.self.inside.window)
