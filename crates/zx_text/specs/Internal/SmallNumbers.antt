-- Numbers that fit the code's own.
use Rattle.std.specs.Prelude.{ℕ, ◌^◌, Bool, ltb}

-- a number that fits the code's own
abbrev pub is_small : ℕ → Bool
is_small n = ltb n (2 ^ 64)
