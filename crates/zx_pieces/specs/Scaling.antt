-- How large the scalars are between circuits and those that replace them.
use Rattle.std.specs.Prelude.{ℕ, ◌^◌}

-- the greatest exponent of the root of two, in size, after one pass over a circuit
abbrev pub most_root2_of_pass : ℕ
most_root2_of_pass = 2 ^ 50

-- after all passes and cleanup
abbrev pub most_root2_of_passes : ℕ
most_root2_of_passes = 2 ^ 56
