-- Phases of classes while they are added up.
use Rattle.std.specs.Prelude.{◌≡◌, ℕ, ◌<◌, ◌+◌, ◌%◌, List, length, slice_index_or}
use Rattle.zx_model.specs.Phase.{turn}

-- each listed phase is below a turn
abbrev pub AreBelowATurn : List ℕ → Type 0
AreBelowATurn phases = (p o : ℕ) → p < length phases → slice_index_or phases p o < turn

-- at each place this amount was added, modulo a turn
abbrev pub AreAdded : List ℕ → (ℕ → ℕ) → List ℕ → Type 0
AreAdded old amount new =
    (p o : ℕ) → p < length old → slice_index_or new p o ≡ (slice_index_or old p o + amount p) % turn
