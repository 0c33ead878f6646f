-- Changes of a list of corrections, of which the tables after rewrites are made.
use Rattle.std.specs.Prelude.{ℕ, if◌then◌else◌, not, ◌==◌, List, [], ◌∷◌, ◌++◌, filter}
use Rattle.gflow_laws.specs.Flow.{Correction, is_in}

-- what is in one of two sets, but not in both
abbrev pub symmetric_difference : List ℕ → List ℕ → List ℕ
symmetric_difference left right =
    filter (λ w. not (is_in right w)) left ++ filter (λ w. not (is_in left w)) right

-- a change of the sets alone, by vertex
abbrev pub with_sets : (ℕ → List ℕ → List ℕ) → List Correction → List Correction
with_sets change [] = []
with_sets change (e ∷ es) =
    record { vertex = e.vertex; members = change e.vertex e.members } ∷ with_sets change es

-- the table without the set of u
abbrev pub without_set : ℕ → List Correction → List Correction
without_set u [] = []
without_set u (e ∷ es) = if u == e.vertex then without_set u es else e ∷ without_set u es
