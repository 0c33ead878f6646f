-- Linear maps up to a scalar that isn't zero.
use Rattle.std.specs.Prelude.{◌≡◌, ◌≢◌, ℕ, Bool, List, length}
use Rattle.zx_model.specs.Number.{Number, zero, mul}

-- Two matrices, as functions of the bits x of a column (n of them) and y of a row (m of them), are equal up
-- to a scalar: one nonzero number times the first is another nonzero number times the second.
pub record Proportional (n m : ℕ) (f g : List Bool → List Bool → Number) : Type 0 where
  pub left : Number
  pub right : Number
  pub left_nonzero : left ≢ zero
  pub right_nonzero : right ≢ zero
  pub equal : (x y : List Bool) → length x ≡ n → length y ≡ m → mul left (f x y) ≡ mul right (g x y)
