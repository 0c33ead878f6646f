-- Places for vertices, and rows with room for all ids below a bound, the reach.
use Rattle.std.specs.Prelude.{◌≡◌, ◌<◌, ◌≤◌, ℕ, suc, List, [], ◌∷◌, length, Option, Some, None, IsSome, slice_index_or}
use Rattle.open_graph.specs.VertexSets.{VertexSet}
use Rattle.zx_calculus.specs.Graph.{End}
use Rattle.open_graph.specs.declared.slot.Slot.{Slot}
use Rattle.open_graph.specs.declared.scratch.Scratch.{Scratch}
use Rattle.open_graph.specs.Internal.Slots.{IsSound}

-- how many places have no vertex
abbrev pub vacant_in : List (Option Slot) → ℕ
vacant_in [] = 0
vacant_in (None ∷ rest) = suc (vacant_in rest)
vacant_in (Some s ∷ rest) = vacant_in rest

-- the room of the row in a place
abbrev pub room_by : Option Slot → ℕ
room_by None = 0
room_by (Some s) = s.row.room

-- each vertex with an id below the reach has a row with room for all ids below it
abbrev pub HasRows : ℕ → List (Option Slot) → Type 0
HasRows reach slots =
    (p : ℕ) → p < reach → IsSome (slice_index_or slots p None) → reach ≤ room_by (slice_index_or slots p None)

-- the same places have no vertex, and rows that had room up to the reach have it still
pub record KeepsRoom (reach : ℕ) (old new : List (Option Slot)) : Type 0 where
  pub spare : vacant_in new ≡ vacant_in old
  pub vacant : (p : ℕ) → slice_index_or new p None ≡ None → slice_index_or old p None ≡ None
  pub rows : HasRows reach old → HasRows reach new

-- as many places have no vertex, and each row has the room that it had
pub record SameRoom (old new : List (Option Slot)) : Type 0 where
  pub spare : vacant_in new ≡ vacant_in old
  pub rows : (p : ℕ) → room_by (slice_index_or new p None) ≡ room_by (slice_index_or old p None)

-- the row without vertices and room
abbrev pub no_row : VertexSet
no_row = record { ids = []; room = 0 }

-- the row kept for an id
abbrev pub row_kept : List VertexSet → ℕ → VertexSet
row_kept kept p = slice_index_or kept p no_row

-- the room of the row of an id: of its vertex, or where it has none of the row kept for it
abbrev pub room_with : Option Slot → VertexSet → ℕ
room_with None row = row.room
room_with (Some s) row = s.row.room

abbrev pub room_at : List (Option Slot) → List VertexSet → ℕ → ℕ
room_at slots kept p = room_with (slice_index_or slots p None) (row_kept kept p)

abbrev pub AreEmpty : List VertexSet → Type 0
AreEmpty kept = (p : ℕ) → (row_kept kept p).ids ≡ []

-- all ids below the reach have a row with room for all ids below it, and rows that are kept have no vertices
pub record HasRoom (reach : ℕ) (slots : List (Option Slot)) (kept : List VertexSet) : Type 0 where
  pub room : (p : ℕ) → p < reach → reach ≤ room_at slots kept p
  pub covers : reach ≤ length kept
  pub empty : AreEmpty kept

-- both sets have room for all ids below the reach
pub record CanHold (reach : ℕ) (scratch : Scratch) : Type 0 where
  pub near : reach ≤ scratch.near.room
  pub far : reach ≤ scratch.far.room

-- what is kept of a graph is sound, and its rows have their room, and so have the sets that calls fill
pub record IsStored (slots : List (Option Slot)) (inputs outputs : List End) (kept : List VertexSet) (sets : Scratch)
    (reach : ℕ) : Type 0 where
  pub sound : IsSound slots inputs outputs
  pub room : HasRoom reach slots kept
  pub scratch : CanHold reach sets
