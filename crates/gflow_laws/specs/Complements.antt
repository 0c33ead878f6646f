-- What a local complement makes of a flow.
-- Backens, Miller-Bakewell, de Felice, Lobski and van de Wetering, "There and back again: a circuit extraction
-- tale" (Quantum 5, 421, 2021), where rewrites that preserve the existence of a generalised flow are treated.
use Rattle.std.specs.Prelude.{ℕ, if◌then◌else◌, ◌==◌, List, [], ◌∷◌}
use Rattle.zx_calculus.specs.Graph.{Plane, XY, XZ, YZ}
use Rattle.gflow_laws.specs.Seen.{Seen, in_odd_neighbourhood}
use Rattle.gflow_laws.specs.Flow.{Correction, set_of, is_in}
use Rattle.gflow_laws.specs.Tables.{symmetric_difference, with_sets}

-- the set of u after a local complement about u: u is toggled where it was XY or XZ
abbrev pub set_about : ℕ → Plane → List ℕ → List ℕ
set_about u XY members = symmetric_difference members (u ∷ [])
set_about u XZ members = symmetric_difference members (u ∷ [])
set_about u YZ members = members

-- the set of another vertex after a local complement about u, `own` being the new set of u: where u has an odd
-- number of neighbours in it, `own` and u are toggled
abbrev pub set_beside : Seen → ℕ → List ℕ → List ℕ → List ℕ
set_beside s u own members =
    if in_odd_neighbourhood s (is_in members) u
    then symmetric_difference (symmetric_difference members own) (u ∷ []) else members

abbrev pub complement_sets : Seen → ℕ → List ℕ → List Correction → List Correction
complement_sets s u own table =
    with_sets (λ v members. if v == u then own else set_beside s u own members) table

-- the flow after a local complement about u; the order stays
abbrev pub complement_table : Seen → ℕ → List Correction → List Correction
complement_table s u table = complement_sets s u (set_about u (s.plane u) (set_of table u)) table
