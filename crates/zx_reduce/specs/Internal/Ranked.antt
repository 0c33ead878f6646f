-- The ranks of an order after a step.
use Rattle.std.specs.Prelude.{◌≡◌, ℕ, suc}
use Rattle.zx_calculus.specs.Steps.{Step, SplitInput, SplitOutput}
use Rattle.move_laws.specs.Ranks.{rank_in, ranked}
use Rattle.zx_reduce.specs.declared.ranks.Ranks.{Ranks}

-- a split of an input ranks the new vertex below all others, one of an output its vertex above all; another step ranks
-- none
abbrev pub AreRanksAfter : Step → ℕ → Ranks → Ranks → Type 0
AreRanksAfter (SplitInput b) new before after =
    ((w : ℕ) → rank_in after.ranks w ≡ ranked new after.low (rank_in before.ranks) w)
    × (before.low ≡ suc after.low) × (after.high ≡ before.high)
AreRanksAfter (SplitOutput b) new before after =
    ((w : ℕ) → rank_in after.ranks w ≡ ranked b before.high (rank_in before.ranks) w)
    × (after.low ≡ before.low) × (after.high ≡ suc before.high)
AreRanksAfter other new before after = after ≡ before
