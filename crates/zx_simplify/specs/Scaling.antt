-- How large the scalars between a graph or a circuit and the simplified circuit are.
use Rattle.std.specs.Prelude.{ℕ, ◌^◌}

-- the greatest exponent of the root of two, in size, between a graph and its circuit
abbrev pub most_simplified_root2 : ℕ
most_simplified_root2 = 2 ^ 54

-- the greatest exponent of the root of two, in size, in the scalar between a circuit and the simplified one
abbrev pub most_circuit_root2 : ℕ
most_circuit_root2 = 2 ^ 55
