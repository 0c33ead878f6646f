-- The graph-like form while it is built: vertices, then edges, then ends.
use Rattle.std.specs.Prelude.{◌≡◌, ◌≢◌, ℕ, List, [], ◌∷◌, ◌++◌, length, map, slice_index_or}
use Rattle.zx_model.specs.Bits.{xor}
use Rattle.zx_calculus.specs.Graph.{XY, Vertex, End, Graph, ids, joined, plane_of, end_vertices, WellFormed}
use Rattle.zx_calculus.specs.Edits.{is_pair}
use Rattle.zx_calculus.specs.Splits.{spider_of_phase_zero}
use Rattle.zx_calculus.specs.Worked.{vertex}
use Rattle.zx_diagram.specs.declared.spider.Spider.{Spider}
use Rattle.zx_diagram.specs.declared.wire.Wire.{Wire}
use Rattle.zx_diagram.specs.Diagram.{numbers_from}
use Rattle.open_graph.specs.declared.side.Side.{Side}
use Rattle.open_graph.specs.declared.side.Side.TheVariants.{Input, Output}
use Rattle.open_graph.specs.Sides.{ends_of}
use Rattle.graph_like.specs.LikeForm.{joined_oddly, surplus_in, placed_in, hangs}

-- a well-formed graph whose vertices are 0, 1, 2 and so on, all of them XY
pub record IsNumbered (g : Graph) : Type 0 where
  pub ids : ids g.vertices ≡ numbers_from 0 (length g.vertices)
  pub planes : (u : ℕ) → plane_of g u ≡ XY
  pub valid : WellFormed g

-- so many XY vertices, of the listed phases
abbrev pub vertices_of : List ℕ → ℕ → List Vertex
vertices_of phases count = map (λ p. vertex p XY (slice_index_or phases p 0)) (numbers_from 0 count)

-- h is g with the Hadamard edges among the listed ones toggled between the vertices of their classes
pub record IsJoinedBy (spiders : List Spider) (home : ℕ → ℕ) (wires : List Wire) (g h : Graph) : Type 0 where
  pub vertices : h.vertices ≡ g.vertices
  pub inputs : h.inputs ≡ g.inputs
  pub outputs : h.outputs ≡ g.outputs
  pub edges : (p q : ℕ) → p ≢ q → joined h.edges p q ≡ xor (joined g.edges p q) (joined_oddly spiders home wires p q)

-- h is g with a new XY vertex of phase 0 behind all others, which hangs on v
pub record HangsOn (v : ℕ) (g h : Graph) : Type 0 where
  pub vertices : h.vertices ≡ g.vertices ++ spider_of_phase_zero (length g.vertices) ∷ []
  pub inputs : h.inputs ≡ g.inputs
  pub outputs : h.outputs ≡ g.outputs
  pub edges : (p q : ℕ) → joined h.edges p q ≡ xor (joined g.edges p q) (is_pair v (length g.vertices) p q)

-- the ends of the other side
abbrev pub other_ends_of : Side → Graph → List End
other_ends_of Input g = g.outputs
other_ends_of Output g = g.inputs

-- of ends that are added on a side, the vertices of those for which there is no room where they are
abbrev pub surplus_of : Side → Graph → List End → List ℕ
surplus_of side g ends = surplus_in (end_vertices (ends_of side g)) (end_vertices ends)

-- h is g with these ends added on a side, each further one of a vertex at a new vertex
pub record AddsEnds (side : Side) (g : Graph) (ends : List End) (h : Graph) : Type 0 where
  pub vertices : h.vertices ≡ g.vertices
      ++ map spider_of_phase_zero (numbers_from (length g.vertices) (length (surplus_of side g ends)))
  pub edges : (p q : ℕ) →
      joined h.edges p q ≡ xor (joined g.edges p q) (hangs (length g.vertices) (surplus_of side g ends) p q)
  pub added : ends_of side h ≡ ends_of side g ++ placed_in (end_vertices (ends_of side g)) (length g.vertices) ends
  pub others : other_ends_of side h ≡ other_ends_of side g
