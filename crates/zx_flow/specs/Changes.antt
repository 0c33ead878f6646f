-- What becomes of a table.
use Rattle.std.specs.Prelude.{ℕ, if◌then◌else◌, ◌==◌, List}
use Rattle.gflow_laws.specs.Flow.{Correction}
use Rattle.gflow_laws.specs.Tables.{symmetric_difference, with_sets}

-- the table with these toggled in the set of v
abbrev pub set_toggled : ℕ → List ℕ → List Correction → List Correction
set_toggled v members table = with_sets (λ u set. if u == v then symmetric_difference set members else set) table
