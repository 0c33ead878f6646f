-- The scalars of which those of rewrites are made: powers of the root of two, and what turns of vertices give.
-- Backens and others (Quantum 5, 421, 2021) give the measurement effects that turns make up to a scalar; where the
-- effect is in the plane YZ or XZ, that scalar is a power of z with the phase of the vertex.
use Rattle.std.specs.Prelude.{ℕ, ℤ, pos, List, [], ◌∷◌}
use Rattle.zx_model.specs.Phase.{sum_of_phases}
use Rattle.zx_model.specs.declared.scalar.Scalar.{Scalar}
use Rattle.zx_calculus.specs.Graph.{Graph, Plane, XY, XZ, YZ, Kind, kind_of}

-- r^exponent for the root of two r, and z^k
abbrev pub root_of_two_to : ℤ → Scalar
root_of_two_to exponent = record { root2 = exponent; turn = 0 }

abbrev pub turn_by : ℕ → Scalar
turn_by k = record { root2 = pos 0; turn = k }

-- the power of z that a quarter turn of a vertex gives
abbrev pub quarter_power_in : Plane → ℕ → ℕ
quarter_power_in XY k = 0
quarter_power_in YZ k = 0
quarter_power_in XZ k = k

abbrev pub quarter_power : Kind → ℕ
quarter_power kind = quarter_power_in kind.plane kind.phase

-- and a half turn
abbrev pub half_power_in : Plane → ℕ → ℕ
half_power_in XY k = 0
half_power_in YZ k = k
half_power_in XZ k = k

abbrev pub half_power : Kind → ℕ
half_power kind = half_power_in kind.plane kind.phase

-- the sum over a list of numbers, as a phase
abbrev pub sum_of_powers : (ℕ → ℕ) → List ℕ → ℕ
sum_of_powers power [] = 0
sum_of_powers power (p ∷ ps) = sum_of_phases (power p) (sum_of_powers power ps)

-- the powers of z that turns of these vertices give
abbrev pub quarter_powers : Graph → List ℕ → ℕ
quarter_powers g ps = sum_of_powers (λ p. quarter_power (kind_of g.vertices p)) ps

abbrev pub half_powers : Graph → List ℕ → ℕ
half_powers g ps = sum_of_powers (λ p. half_power (kind_of g.vertices p)) ps
