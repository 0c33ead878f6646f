-- What contracts say of a set of numbers.
use Rattle.std.specs.Prelude.{◌≡◌, ◌<◌, ℕ, Bool, true, ltb, ◌&&◌, List, [], ◌∷◌}
use Rattle.std.specs.List.{list_all}
use Rattle.zx_model.specs.Bits.{member}

-- a set of numbers in memory: the numbers by rising size, and a bound below which any can be put in without memory
pub record BitSet : Type 0 where
  pub numbers : List ℕ
  pub room : ℕ

-- each number is below all that come after it
abbrev pub rising : List ℕ → Bool
rising [] = true
rising (x ∷ xs) = list_all (ltb x) xs && rising xs

abbrev pub IsRising : List ℕ → Type 0
IsRising xs = rising xs ≡ true

-- each number of the list is below a bound
abbrev pub IsBelow : ℕ → List ℕ → Type 0
IsBelow bound xs = (x : ℕ) → member x xs ≡ true → x < bound
