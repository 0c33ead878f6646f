-- How large the scalars are between circuits and those with fewer odd phases.
use Rattle.std.specs.Prelude.{ℕ, ◌^◌}

-- the greatest exponent of the root of two, in size
abbrev pub most_root2_of_fewer : ℕ
most_root2_of_fewer = 2 ^ 50
