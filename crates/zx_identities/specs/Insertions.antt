-- How large the scalars are of gates that are put into circuits.
use Rattle.std.specs.Prelude.{ℕ, ◌^◌}

-- the greatest exponent of the root of two, in size, of all insertions together
abbrev pub most_root2_of_insertions : ℕ
most_root2_of_insertions = 2 ^ 50
