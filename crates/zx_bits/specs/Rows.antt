-- What contracts see of a row of bits and of a matrix, and what is said of lists of bits.
use Rattle.std.specs.Prelude.{◌≡◌, ◌<◌, ◌≤◌, ℕ, zero, suc, Bool, true, false, not, ◌&&◌, Option, Some, None}
use Rattle.std.specs.Prelude.{List, [], ◌∷◌, get_or, slice_set}
use Rattle.zx_model.specs.Bits.{xor}

pub record BitRow : Type 0 where
  pub bits : List Bool

-- how many bits each row has, and the rows
pub record BitMatrix : Type 0 where
  pub columns : ℕ
  pub rows : List (List Bool)

-- the row with a number
abbrev pub row_at : BitMatrix → ℕ → List Bool
row_at m r = get_or m.rows r []

-- the matrix with another row at a number
abbrev pub with_row : BitMatrix → ℕ → List Bool → BitMatrix
with_row m r row = record m { rows = slice_set m.rows r row }

-- the same with the bit at a place negated
abbrev pub flipped : List Bool → ℕ → List Bool
flipped [] place = []
flipped (x ∷ xs) zero = not x ∷ xs
flipped (x ∷ xs) (suc place) = x ∷ flipped xs place

-- the sum place by place, of lists of the same length
abbrev pub xor_lists : List Bool → List Bool → List Bool
xor_lists [] ys = ys
xor_lists (x ∷ xs) [] = x ∷ xs
xor_lists (x ∷ xs) (y ∷ ys) = xor x y ∷ xor_lists xs ys

-- whether the number of places where both have their bit set is odd
abbrev pub parity_of : List Bool → List Bool → Bool
parity_of [] ys = false
parity_of (x ∷ xs) [] = false
parity_of (x ∷ xs) (y ∷ ys) = xor (x && y) (parity_of xs ys)

-- the first place from a start on that is set, if there is one
abbrev pub IsFirstFrom : (ℕ → Bool) → ℕ → Option ℕ → Type 0
IsFirstFrom is_set start None = (place : ℕ) → start ≤ place → is_set place ≡ false
IsFirstFrom is_set start (Some first) =
    (start ≤ first) × (is_set first ≡ true) × ((place : ℕ) → start ≤ place → place < first → is_set place ≡ false)
