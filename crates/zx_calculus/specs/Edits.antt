-- Single changes of an open graph, of which rewrites are made.
use Rattle.std.specs.Prelude.{◌≡◌, ◌≢◌, ℕ, Bool, if◌then◌else◌, ◌&&◌, ◌||◌, ◌==◌}
use Rattle.zx_model.specs.Bits.{xor}
use Rattle.zx_calculus.specs.Graph.{Kind, Graph, ids, joined, OrderedEdges, without}

-- plane and phase of u change, and those of no other vertex
abbrev pub at_vertex : ℕ → (Kind → Kind) → ℕ → Kind → Kind
at_vertex u change p kind = if p == u then change kind else kind

-- p and q are u and v, in either order
abbrev pub is_pair : ℕ → ℕ → ℕ → ℕ → Bool
is_pair u v p q = ((p == u) && (q == v)) || ((p == v) && (q == u))

-- what every step but a split leaves as it is: the inputs and the outputs. Its edges stand in order.
pub record KeepsEnds (g h : Graph) : Type 0 where
  pub ordered : OrderedEdges (ids h.vertices) h.edges
  pub inputs : h.inputs ≡ g.inputs
  pub outputs : h.outputs ≡ g.outputs

-- h is g with an edge between u and v where there was none, and without it where there was one
pub record IsToggle (g : Graph) (u v : ℕ) (h : Graph) : Type 0 where
  pub vertices : h.vertices ≡ g.vertices
  pub edges : (p q : ℕ) → joined h.edges p q ≡ xor (joined g.edges p q) (is_pair u v p q)
  pub frame : KeepsEnds g h

-- h is g without the vertex u and its edges
pub record IsRemoval (g : Graph) (u : ℕ) (h : Graph) : Type 0 where
  pub vertices : h.vertices ≡ without u g.vertices
  pub edges : (p q : ℕ) → p ≢ u → q ≢ u → joined h.edges p q ≡ joined g.edges p q
  pub frame : KeepsEnds g h
