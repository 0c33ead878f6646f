-- Gates by their numbers, the first one first.
use Rattle.std.specs.Prelude.{◌≡◌, ◌<◌, ℕ, true, List, [], ◌∷◌}
use Rattle.zx_model.specs.Bits.{member}

-- gates by rising numbers
abbrev pub AreRising : List ℕ → Type 0
AreRising [] = Unit {0}
AreRising (i ∷ is) = ((j : ℕ) → member j is ≡ true → i < j) × AreRising is
