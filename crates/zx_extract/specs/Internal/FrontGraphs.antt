-- A graph whose edges between outputs and other vertices stand in rows of the outputs alone.
use Rattle.std.specs.Prelude.{◌≡◌, ◌≢◌, ℕ, Bool, true, false, not, ◌&&◌, if◌then◌else◌, List}
use Rattle.zx_model.specs.Bits.{member}
use Rattle.zx_calculus.specs.Graph.{Edge, Graph, joined, end_vertices}
use Rattle.zx_calculus.specs.Edits.{KeepsEnds}
use Rattle.zx_calculus.specs.Adjacency.{adjacent_graph}
use Rattle.open_graph.specs.VertexSets.{VertexSet}
use Rattle.zx_flow.specs.VertexSets.{set_at}

-- what contracts see: the graph
pub record FrontGraph : Type 0 where
  pub graph : Graph

-- the row of p has q
abbrev pub row_has : List VertexSet → ℕ → ℕ → Bool
row_has rows p q = member q (set_at rows p)

-- which of three tells whether two vertices are adjacent, of which each may be an output: the row of the one that is,
-- or where both or none are the graph
abbrev pub told : Bool → Bool → Bool → Bool → Bool → Bool
told true false first second edge = first
told false true first second edge = second
told true true first second edge = edge
told false false first second edge = edge

-- adjacent vertices, where these are the outputs
abbrev pub front_adjacent : List ℕ → List Edge → List VertexSet → ℕ → ℕ → Bool
front_adjacent outputs edges rows p q =
    told (member p outputs) (member q outputs) (row_has rows p q) (row_has rows q p) (joined edges p q)

-- the graph with these rows of its outputs
abbrev pub front_graph : Graph → List VertexSet → Graph
front_graph g rows = adjacent_graph g g.vertices (front_adjacent (end_vertices g.outputs) g.edges rows)

-- no edge joins two outputs
abbrev pub AreOutputsApart : Graph → Type 0
AreOutputsApart g = (p q : ℕ) → member p (end_vertices g.outputs) ≡ true → member q (end_vertices g.outputs) ≡ true →
    joined g.edges p q ≡ false

-- the rows of these outputs have their neighbours in g that aren't outputs
abbrev pub HasRows : Graph → List ℕ → List VertexSet → Type 0
HasRows g outputs rows = (p q : ℕ) → member p outputs ≡ true →
    row_has rows p q ≡ (joined g.edges p q && not (member q (end_vertices g.outputs)))

-- the row of u is that, and the others stay
pub record IsRowPut (old : List VertexSet) (u : ℕ) (row : List ℕ) (new : List VertexSet) : Type 0 where
  pub own : (w : ℕ) → row_has new u w ≡ member w row
  pub others : (p w : ℕ) → p ≢ u → row_has new p w ≡ row_has old p w

-- in h the edges between v and these outputs are those that the rows tell, and all others are those of g
pub record IsMet (g : Graph) (rows : List VertexSet) (v : ℕ) (outputs : List ℕ) (h : Graph) : Type 0 where
  pub vertices : h.vertices ≡ g.vertices
  pub inputs : h.inputs ≡ g.inputs
  pub outputs_stay : h.outputs ≡ g.outputs
  pub others : (p q : ℕ) → p ≢ v → q ≢ v → joined h.edges p q ≡ joined g.edges p q
  pub own : (w : ℕ) → joined h.edges v w ≡ (if member w outputs then row_has rows w v else joined g.edges v w)

-- the vertex u has those neighbours of v that aren't outputs, in place of its own
pub record IsRowTaken (g : Graph) (v u : ℕ) (h : Graph) : Type 0 where
  pub row : (w : ℕ) → w ≢ u → joined h.edges u w ≡ (joined g.edges v w && not (member w (end_vertices g.outputs)))
  pub others : (p w : ℕ) → p ≢ u → w ≢ u → joined h.edges p w ≡ joined g.edges p w
  pub vertices : h.vertices ≡ g.vertices
  pub frame : KeepsEnds g h
