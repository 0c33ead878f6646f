-- Rows of a matrix summed up until those that are left are independent.
use Rattle.std.specs.Prelude.{◌≡◌, ◌<◌, ℕ, Bool, true, false, if◌then◌else◌, List, [], ◌∷◌, length, ◌++◌, ◌⊎◌}
use Rattle.std.specs.List.{AllByRecursion}
use Rattle.zx_model.specs.Bits.{bit}
use Rattle.zx_bits.specs.Rows.{BitMatrix, row_at, flipped, xor_lists, parity_of}
use Rattle.zx_bits.specs.Solving.{sum_of_rows}
use Rattle.zx_bits.specs.declared.solving.Reduced.{Reduced}

-- a row, and a bit for each row of the matrix that it was summed up of
pub record Summed : Type 0 where
  pub row : List Bool
  pub from : List Bool

-- one of the basis is added where its pivot is set
abbrev pub added_at_pivot : Reduced → Summed → Summed
added_at_pivot b v =
    if bit v.row b.pivot then record { row = xor_lists v.row b.row.bits; from = xor_lists v.from b.from.bits } else v

abbrev pub reduced : List Reduced → Summed → Summed
reduced [] v = v
reduced (b ∷ basis) v = reduced basis (added_at_pivot b v)

-- a start, with the pivots that make it meet each of the basis evenly
abbrev pub evened : Reduced → List Bool → List Bool
evened b dual = if parity_of b.row.bits dual then flipped dual b.pivot else dual

abbrev pub dual_of : List Reduced → List Bool → List Bool
dual_of [] start = start
dual_of (b ∷ basis) start = evened b (dual_of basis start)

abbrev pub HasSize : ℕ → ℕ → Reduced → Type 0
HasSize columns height b = (length b.row.bits ≡ columns) × (length b.from.bits ≡ height) × (b.pivot < columns)

abbrev pub HasSizes : ℕ → ℕ → List Reduced → Type 0
HasSizes columns height basis = AllByRecursion (HasSize columns height) basis

-- the pivot of each is set in it, and not in those after it
abbrev pub IsEchelon : List Reduced → Type 0
IsEchelon [] = Unit {0}
IsEchelon (b ∷ basis) =
    (bit b.row.bits b.pivot ≡ true) × AllByRecursion (λ c. bit c.row.bits b.pivot ≡ false) basis × IsEchelon basis

-- each of the basis has an even number of places in common with y
abbrev pub IsEvenWith : List Bool → List Reduced → Type 0
IsEvenWith y basis = AllByRecursion (λ b. parity_of b.row.bits y ≡ false) basis

-- a row that is no sum of those before it, as a list of bits shows
pub record IsNew (m : BitMatrix) (r : ℕ) : Type 0 where
  pub witness : List Bool
  pub size : length witness ≡ m.columns
  pub odd : parity_of (row_at m r) witness ≡ true
  pub even : (before : ℕ) → before < r → parity_of (row_at m before) witness ≡ false

-- a sum of such rows
pub record IsNewSum (m : BitMatrix) (b : Reduced) : Type 0 where
  pub sum : sum_of_rows m.columns m.rows b.from.bits ≡ b.row.bits
  pub new : (r : ℕ) → bit b.from.bits r ≡ true → IsNew m r

-- sums of new rows that sum to the first rows of a matrix
pub record IsBasis (m : BitMatrix) (rows : ℕ) (basis : List Reduced) : Type 0 where
  pub sizes : HasSizes m.columns (length m.rows) basis
  pub echelon : IsEchelon basis
  pub sums : AllByRecursion (IsNewSum m) basis
  pub spans : (y : List Bool) → length y ≡ m.columns → IsEvenWith y basis →
      (r : ℕ) → r < rows → parity_of (row_at m r) y ≡ false

-- no bit of the row is set, or it stands at the end of the basis now
abbrev pub IsPutIntoBasis : List Bool → List Bool → List Reduced → List Reduced → Type 0
IsPutIntoBasis row from old new =
    (((place : ℕ) → bit row place ≡ false) × (new ≡ old))
    ⊎ ((b : Reduced) × (b.row.bits ≡ row) × (b.from.bits ≡ from) × (bit row b.pivot ≡ true) × (new ≡ old ++ b ∷ []))
