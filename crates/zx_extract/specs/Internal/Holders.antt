-- A flow turned over: of each vertex, in the correction sets of which vertices it stands.
use Rattle.std.specs.Prelude.{◌≡◌, ℕ, Bool, true, List, [], ◌∷◌, length, filter}
use Rattle.std.specs.List.{range_with_len}
use Rattle.zx_model.specs.Bits.{member}
use Rattle.zx_calculus.specs.Graph.{Distinct}
use Rattle.gflow_laws.specs.Flow.{Correction}
use Rattle.open_graph.specs.VertexSets.{VertexSet}
use Rattle.zx_flow.specs.VertexSets.{set_at}

-- what contracts see: the flow
pub record Holders : Type 0 where
  pub flow : List Correction

-- s stands in the set of v
abbrev pub holds : List VertexSet → ℕ → ℕ → Bool
holds lists s v = member v (set_at lists s)

-- the members of the set of v
abbrev pub holders_of : List VertexSet → ℕ → List ℕ
holders_of lists v = filter (λ s. holds lists s v) (range_with_len 0 (length lists))

-- the vertices in this order with their sets
abbrev pub table_from : List VertexSet → List ℕ → List Correction
table_from lists [] = []
table_from lists (v ∷ vs) = record { vertex = v; members = holders_of lists v } ∷ table_from lists vs

-- each vertex of the order stands once, and no other has a set
pub record IsOrdered (order : List ℕ) (lists : List VertexSet) : Type 0 where
  pub each_once : Distinct order
  pub within : (s v : ℕ) → holds lists s v ≡ true → member v order ≡ true
