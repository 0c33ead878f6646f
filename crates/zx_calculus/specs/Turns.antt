-- What quarter and half turns about the Z axis make of planes and phases, and what local complementation and
-- pivoting make of the vertices that they are about.
-- Backens and others (Quantum 5, 421, 2021), on local complementation and pivoting in all three planes.
use Rattle.std.specs.Prelude.{ℕ}
use Rattle.zx_model.specs.Phase.{half_turn, quarter_turn, sum_of_phases, opposite_phase}
use Rattle.zx_calculus.specs.Graph.{Plane, XY, XZ, YZ, Kind}

abbrev pub in_plane : Plane → ℕ → Kind
in_plane plane phase = record { plane = plane; phase = phase }

-- a quarter turn: XY(k) to XY(k+quarter), YZ(k) to XZ(k), XZ(k) to YZ(-k)
abbrev pub quarter_turned_in : Plane → ℕ → Kind
quarter_turned_in XY k = in_plane XY (sum_of_phases k quarter_turn)
quarter_turned_in YZ k = in_plane XZ k
quarter_turned_in XZ k = in_plane YZ (opposite_phase k)

abbrev pub quarter_turned : Kind → Kind
quarter_turned kind = quarter_turned_in kind.plane kind.phase

-- a half turn: XY(k) to XY(k+half), YZ(k) to YZ(-k), XZ(k) to XZ(-k)
abbrev pub half_turned_in : Plane → ℕ → Kind
half_turned_in XY k = in_plane XY (sum_of_phases k half_turn)
half_turned_in YZ k = in_plane YZ (opposite_phase k)
half_turned_in XZ k = in_plane XZ (opposite_phase k)

abbrev pub half_turned : Kind → Kind
half_turned kind = half_turned_in kind.plane kind.phase

-- about itself, a local complement takes XY(k) to XZ(k+quarter), XZ(k) to XY(quarter-k), YZ(k) to YZ(k-quarter)
abbrev pub complemented_in : Plane → ℕ → Kind
complemented_in XY k = in_plane XZ (sum_of_phases k quarter_turn)
complemented_in XZ k = in_plane XY (sum_of_phases quarter_turn (opposite_phase k))
complemented_in YZ k = in_plane YZ (sum_of_phases k (opposite_phase quarter_turn))

abbrev pub complemented : Kind → Kind
complemented kind = complemented_in kind.plane kind.phase

-- a pivot takes each of its two vertices from XY(k) to YZ(k), YZ(k) to XY(k), XZ(k) to XZ(quarter-k)
abbrev pub pivoted_in : Plane → ℕ → Kind
pivoted_in XY k = in_plane YZ k
pivoted_in YZ k = in_plane XY k
pivoted_in XZ k = in_plane XZ (sum_of_phases quarter_turn (opposite_phase k))

abbrev pub pivoted : Kind → Kind
pivoted kind = pivoted_in kind.plane kind.phase

-- the kind with a phase added
abbrev pub with_phase_added : ℕ → Kind → Kind
with_phase_added k kind = in_plane kind.plane (sum_of_phases kind.phase k)
