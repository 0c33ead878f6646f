-- Rows of a matrix that sum to a target, and what shows that none do.
use Rattle.std.specs.Prelude.{◌≡◌, ◌<◌, ℕ, Bool, true, false, if◌then◌else◌, List, [], ◌∷◌, length, replicate}
use Rattle.zx_model.specs.Bits.{bit}
use Rattle.zx_bits.specs.Rows.{BitMatrix, row_at, xor_lists, parity_of}
use Rattle.zx_bits.specs.declared.solving.Solved.{Solved}
use Rattle.zx_bits.specs.declared.solving.Solved.TheVariants as answer

-- no bit of so many is set
abbrev pub zeros : ℕ → List Bool
zeros n = replicate n false

-- the sum of the rows whose bit is set, each of so many columns
abbrev pub sum_of_rows : ℕ → List (List Bool) → List Bool → List Bool
sum_of_rows columns [] set = zeros columns
sum_of_rows columns (row ∷ rows) [] = zeros columns
sum_of_rows columns (row ∷ rows) (picked ∷ set) =
    xor_lists (if picked then row else zeros columns) (sum_of_rows columns rows set)

-- each bit that is set in the part is set in the whole
abbrev pub IsContained : List Bool → List Bool → Type 0
IsContained part whole = (place : ℕ) → bit part place ≡ true → bit whole place ≡ true

-- the rows of the set sum to the target, and those of no smaller part of it do
pub record IsSolution (m : BitMatrix) (target set : List Bool) : Type 0 where
  pub one_for_each_row : length set ≡ length m.rows
  pub sum : sum_of_rows m.columns m.rows set ≡ target
  pub minimal : (part : List Bool) → length part ≡ length m.rows → IsContained part set →
      sum_of_rows m.columns m.rows part ≡ target → part ≡ set

-- each row has an even number of places in common with the dual, and the target an odd number
pub record IsDual (m : BitMatrix) (target dual : List Bool) : Type 0 where
  pub one_for_each_column : length dual ≡ m.columns
  pub even : (r : ℕ) → r < length m.rows → parity_of (row_at m r) dual ≡ false
  pub odd : parity_of target dual ≡ true

-- what an answer means
abbrev pub IsSolved : BitMatrix → List Bool → Solved → Type 0
IsSolved m target (answer.Rows set) = IsSolution m target set.bits
IsSolved m target (answer.None dual) = IsDual m target dual.bits
