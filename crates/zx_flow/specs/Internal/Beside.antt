-- A local complement, while the set of its own vertex stays.
use Rattle.std.specs.Prelude.{ℕ, Bool, if◌then◌else◌, ◌==◌, List}
use Rattle.gflow_laws.specs.Seen.{Seen}
use Rattle.gflow_laws.specs.Internal.Changes.{complement_change}

-- a local complement about u, while the set of u itself, `own`, stays
abbrev pub beside_change : Seen → ℕ → List ℕ → ℕ → (ℕ → Bool) → ℕ → Bool
beside_change s u own v set w = if v == u then set w else complement_change s u own v set w
