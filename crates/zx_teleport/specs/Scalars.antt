-- How large the scalar is between a circuit's map and that of the circuit with teleported phases.
use Rattle.std.specs.Prelude.{ℕ, ◌^◌}

-- the greatest exponent of the root of two in it, in size
abbrev pub most_teleported_root2 : ℕ
most_teleported_root2 = 2 ^ 56
