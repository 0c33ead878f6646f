use Rattle.std.proofs.Common.{ap, subst}
use Rattle.zx_bits.specs.Sets.{IsRising}
use Rattle.zx_bits.proofs.SetLemmas.{rising_places}
use Rattle.zx_bits.proofs.bit_set.BitSet.len.Goals as goal

pub returns-clause-rising : goal.returns-clause-rising
returns-clause-rising c = subst IsRising (ap (λ s. s.numbers) c.self.view_is) (rising_places c.self.inside.window)
