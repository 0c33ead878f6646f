-- The lists of a graph that is kept as slots.
use Rattle.std.specs.Prelude.{◌≡◌, ℕ, suc, Bool, true, false, if◌then◌else◌, ◌==◌, List, [], ◌∷◌, Option, Some, None}
use Rattle.std.specs.Prelude.{slice_index_or}
use Rattle.zx_model.specs.Bits.{member}
use Rattle.zx_calculus.specs.Graph.{XY, Kind, Vertex, End, Graph, ids, kind_of, WellFormed}
use Rattle.zx_calculus.specs.Graph as graph
use Rattle.zx_calculus.specs.Turns.{in_plane}
use Rattle.zx_calculus.specs.Adjacency.{edges_of}
use Rattle.open_graph.specs.Planes.{plane_named}
use Rattle.open_graph.specs.declared.slot.Slot.{Slot}

-- what is told of the vertex with an id: whether there is one, its kind, its neighbours, the places of its ends
pub record Told : Type 0 where
  pub live : Bool
  pub kind : Kind
  pub row : List ℕ
  pub input : Option ℕ
  pub output : Option ℕ

-- where there is no vertex
abbrev pub nothing : Told
nothing = record { live = false; kind = in_plane XY 0; row = []; input = None; output = None }

abbrev pub kind_in : Slot → Kind
kind_in s = in_plane (plane_named s.plane) s.phase

abbrev pub told_by : Option Slot → Told
told_by None = nothing
told_by (Some s) = record { live = true; kind = kind_in s; row = s.row.ids; input = s.input; output = s.output }

abbrev pub told_at : List (Option Slot) → ℕ → Told
told_at slots p = told_by (slice_index_or slots p None)

-- the vertices of these slots, by rising id, where the first slot has this id
abbrev pub vertices_from : ℕ → List (Option Slot) → List Vertex
vertices_from first [] = []
vertices_from first (None ∷ rest) = vertices_from (suc first) rest
vertices_from first (Some s ∷ rest) = record { id = first; kind = kind_in s } ∷ vertices_from (suc first) rest

abbrev pub adjacent : List (Option Slot) → ℕ → ℕ → Bool
adjacent slots p q = member q (told_at slots p).row

abbrev pub vertices_of : List (Option Slot) → List Vertex
vertices_of slots = vertices_from 0 slots

abbrev pub graph_of : List (Option Slot) → List End → List End → Graph
graph_of slots inputs outputs =
    record {
      vertices = vertices_of slots;
      edges = edges_of (adjacent slots) (ids (vertices_of slots));
      inputs = inputs;
      outputs = outputs;
    }

-- one more, where there is a place
abbrev pub next_place : Option ℕ → Option ℕ
next_place None = None
next_place (Some i) = Some (suc i)

-- the place of the first end at a vertex
abbrev pub place_among : ℕ → List End → Option ℕ
place_among v [] = None
place_among v (e ∷ es) = if v == e.vertex then Some 0 else next_place (place_among v es)

-- rows are those of a graph without loops, places of ends are right, and the lists are well-formed
pub record IsSound (slots : List (Option Slot)) (inputs outputs : List End) : Type 0 where
  pub symmetric : (p q : ℕ) → adjacent slots p q ≡ adjacent slots q p
  pub no_loop : (p : ℕ) → adjacent slots p p ≡ false
  pub input_places : (p : ℕ) → (told_at slots p).input ≡ place_among p inputs
  pub output_places : (p : ℕ) → (told_at slots p).output ≡ place_among p outputs
  pub well_formed : WellFormed (graph_of slots inputs outputs)

-- what a slot tells of a vertex
pub record Tells (g : Graph) (v : ℕ) (s : Slot) : Type 0 where
  pub kind : kind_in s ≡ kind_of g.vertices v
  pub joined : (p : ℕ) → member p s.row.ids ≡ graph.joined g.edges v p
  pub input : s.input ≡ place_among v g.inputs
  pub output : s.output ≡ place_among v g.outputs
  pub well_formed : WellFormed g
