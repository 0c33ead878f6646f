-- What a vertex that goes changes in the sets, while its own set still stands.
use Rattle.std.specs.Prelude.{ℕ, Bool, if◌then◌else◌, ◌==◌, List}
use Rattle.gflow_laws.specs.Internal.Changes.{removal_change}

-- the set of u itself stays
abbrev pub clearing_change : ℕ → List ℕ → ℕ → (ℕ → Bool) → ℕ → Bool
clearing_change u own v set w = if v == u then set w else removal_change u own v set w
