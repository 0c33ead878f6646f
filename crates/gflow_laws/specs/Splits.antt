-- What the split of an end makes of a flow.
-- Backens, Miller-Bakewell, de Felice, Lobski and van de Wetering, "There and back again: a circuit extraction
-- tale" (Quantum 5, 421, 2021), where rewrites that preserve the existence of a generalised flow are treated.
use Rattle.std.specs.Prelude.{ℕ, List, [], ◌∷◌, ◌++◌}
use Rattle.gflow_laws.specs.Flow.{Correction}

-- the flow after the output at b moved to a new vertex: b comes last, corrected by the new vertex
abbrev pub split_output_table : ℕ → ℕ → List Correction → List Correction
split_output_table b new table = table ++ record { vertex = b; members = new ∷ [] } ∷ []

-- the flow after the input at b moved to a new vertex: the new vertex comes first, corrected by b
abbrev pub split_input_table : ℕ → ℕ → List Correction → List Correction
split_input_table b new table = record { vertex = new; members = b ∷ [] } ∷ table
