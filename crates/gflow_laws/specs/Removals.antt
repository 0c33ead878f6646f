-- What a deletion makes of a flow, and what a gadget that is dropped or fused makes of it.
-- Backens, Miller-Bakewell, de Felice, Lobski and van de Wetering, "There and back again: a circuit extraction
-- tale" (Quantum 5, 421, 2021), where rewrites that preserve the existence of a generalised flow are treated.
use Rattle.std.specs.Prelude.{ℕ, if◌then◌else◌, List}
use Rattle.gflow_laws.specs.Flow.{Correction, set_of, is_in}
use Rattle.gflow_laws.specs.Tables.{symmetric_difference, with_sets, without_set}

-- the flow after u went, which wasn't XY: where u is in a set, that of u is toggled
abbrev pub removal_table : ℕ → List Correction → List Correction
removal_table u table =
    with_sets (λ v members. if is_in members u then symmetric_difference members (set_of table u) else members)
    (without_set u table)
