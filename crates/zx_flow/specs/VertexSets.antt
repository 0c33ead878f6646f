-- What contracts see of a set of vertices for each vertex.
use Rattle.std.specs.Prelude.{◌≡◌, ◌==◌, ℕ, false, List, [], slice_index_or}
use Rattle.zx_model.specs.Bits.{xor, member}
use Rattle.open_graph.specs.VertexSets.{VertexSet}

-- the sets by the number of their vertex, and a bound below which they change without memory
pub record VertexSets : Type 0 where
  pub lists : List VertexSet
  pub reach : ℕ

-- the set without vertices
abbrev pub no_set : VertexSet
no_set = record { ids = []; room = 0 }

-- the members of the set at a number: none past the end
abbrev pub set_at : List VertexSet → ℕ → List ℕ
set_at sets v = (slice_index_or sets v no_set).ids

-- at each number both have the same set
abbrev pub SameSetsAt : List VertexSet → List VertexSet → Type 0
SameSetsAt old new = (p : ℕ) → set_at new p ≡ set_at old p

-- at each number but one
abbrev pub SameSetsBut : ℕ → List VertexSet → List VertexSet → Type 0
SameSetsBut v old new = (p : ℕ) → (p == v) ≡ false → set_at new p ≡ set_at old p

-- these are toggled in the set at a number, and the others stay
pub record AreToggledAt (v : ℕ) (members : List ℕ) (old new : List VertexSet) : Type 0 where
  pub own : (w : ℕ) → member w (set_at new v) ≡ xor (member w (set_at old v)) (member w members)
  pub others : SameSetsBut v old new
