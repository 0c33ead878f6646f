-- Powers of two among numbers.
use Rattle.std.specs.Prelude.{ℕ, zero as nought, suc}
use Rattle.zx_model.specs.Constants.{two}
use Rattle.zx_model.specs.Number.{Number, one, mul}

-- 2^k
abbrev pub power_of_two : ℕ → Number
power_of_two nought = one
power_of_two (suc k) = mul two (power_of_two k)
