-- Planes and phases of some vertices changed.
use Rattle.std.specs.Prelude.{ℕ, if◌then◌else◌, List}
use Rattle.zx_model.specs.Bits.{member}
use Rattle.zx_calculus.specs.Graph.{Kind, Graph, with_kinds}

-- plane and phase of the listed vertices change
abbrev pub changed_in : List ℕ → (Kind → Kind) → ℕ → Kind → Kind
changed_in near change p kind = if member p near then change kind else kind

-- g with other planes and phases
abbrev pub with_changed : (ℕ → Kind → Kind) → Graph → Graph
with_changed change g = record g { vertices = with_kinds change g.vertices }
