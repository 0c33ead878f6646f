-- What a pivot makes of a flow.
-- Backens, Miller-Bakewell, de Felice, Lobski and van de Wetering, "There and back again: a circuit extraction
-- tale" (Quantum 5, 421, 2021), where rewrites that preserve the existence of a generalised flow are treated.
use Rattle.std.specs.Prelude.{ℕ, List}
use Rattle.gflow_laws.specs.Seen.{Seen, complemented}
use Rattle.gflow_laws.specs.Flow.{Correction}
use Rattle.gflow_laws.specs.Complements.{complement_table}

-- the flow after a pivot of u and v: in planes and edges a pivot is local complements about u, v and u
abbrev pub pivot_table : Seen → ℕ → ℕ → List Correction → List Correction
pivot_table s u v table =
    complement_table (complemented (complemented s u) v) u
    (complement_table (complemented s u) v (complement_table s u table))
