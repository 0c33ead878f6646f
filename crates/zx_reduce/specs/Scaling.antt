-- How large the scalar of a simplification is.
use Rattle.std.specs.Prelude.{ℕ, ◌^◌, ◌*◌}

-- no simplification does more steps
abbrev pub most_steps : ℕ
most_steps = 2 ^ 52

-- the greatest exponent of the root of two for a simplification: two for each step
abbrev pub most_reduced_root2 : ℕ
most_reduced_root2 = 2 * most_steps
