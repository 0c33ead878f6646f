-- Sets by the number of their vertex, and tables that are kept as an order with such sets.
use Rattle.std.specs.Prelude.{◌≡◌, ◌<◌, ◌≤◌, ℕ, true, List, [], ◌∷◌, length, slice_index_or}
use Rattle.zx_model.specs.Bits.{member}
use Rattle.zx_calculus.specs.Graph.{Distinct}
use Rattle.gflow_laws.specs.Flow.{Correction}
use Rattle.open_graph.specs.VertexSets.{VertexSet}
use Rattle.open_graph.specs.Rooms.{Room}
use Rattle.zx_flow.specs.VertexSets.{no_set, set_at}

-- below which bound they can change without memory
abbrev pub room_at : List VertexSet → ℕ → ℕ
room_at sets v = (slice_index_or sets v no_set).room

-- those below a number have room for all below it
pub record HasReach (reach : ℕ) (sets : List VertexSet) : Type 0 where
  pub there : reach ≤ length sets
  pub room : (v : ℕ) → v < reach → reach ≤ room_at sets v

-- they have that room, and the set of those past the end is empty
pub record AreKept (none : List ℕ) (reach : ℕ) (sets : List VertexSet) : Type 0 where
  pub empty : none ≡ []
  pub has : HasReach reach sets

-- the vertices in this order with their sets
abbrev pub table_of : List VertexSet → List ℕ → List Correction
table_of sets [] = []
table_of sets (v ∷ vs) = record { vertex = v; members = set_at sets v } ∷ table_of sets vs

-- each vertex stands once, and has a place
pub record HoldsOnce (sets : List VertexSet) (order : List ℕ) : Type 0 where
  pub each_once : Distinct order
  pub within : (v : ℕ) → member v order ≡ true → v < length sets

-- what contracts see of an order with sets: the table, and the memory that it has
pub record Corrections : Type 0 where
  pub table : List Correction
  pub room : Room
