-- The matrix of the rows of a set.
use Rattle.std.specs.Prelude.{◌≡◌, ◌<◌, ℕ, Bool, List, length, if◌then◌else◌}
use Rattle.zx_model.specs.Bits.{bit}
use Rattle.zx_bits.specs.Rows.{BitMatrix, row_at}
use Rattle.zx_bits.specs.Solving.{zeros}

-- the first n rows of a matrix, with no bit set in those outside a set
pub record HasOnly (m : BitMatrix) (set : List Bool) (n : ℕ) (only : BitMatrix) : Type 0 where
  pub columns : only.columns ≡ m.columns
  pub height : length only.rows ≡ n
  pub rows : (r : ℕ) → r < n → row_at only r ≡ (if bit set r then row_at m r else zeros m.columns)
