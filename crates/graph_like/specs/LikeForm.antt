-- The graph-like form of a diagram: an open graph with a vertex for each class of spiders that plain edges join.
-- van de Wetering, "ZX-calculus for the working quantum computer scientist" (arXiv 2012.13966, 2020), on graph-like
-- diagrams; Duncan, Kissinger, Perdrix and van de Wetering (Quantum 4, 279, 2020): colours are changed, spiders fuse
-- along plain edges, Hadamard loops are half turns, pairs of parallel Hadamard edges go, and a vertex has one input
-- and one output at most.
use Rattle.std.specs.Prelude.{◌≡◌, ℕ, suc, ◌+◌, ◌*◌, ◌%◌, Bool, false, if◌then◌else◌, not, ◌&&◌, ◌==◌, List}
use Rattle.std.specs.Prelude.{[], ◌∷◌, ◌++◌, length, map, filter}
use Rattle.zx_model.specs.Phase.{turn, half_turn}
use Rattle.zx_model.specs.Bits.{xor, member, one_if}
use Rattle.zx_calculus.specs.Graph.{XY, Vertex, End, Graph, end_vertices}
use Rattle.zx_calculus.specs.Adjacency.{edges_of}
use Rattle.zx_calculus.specs.Edits.{is_pair}
use Rattle.zx_calculus.specs.Splits.{spider_of_phase_zero}
use Rattle.zx_calculus.specs.Turns.{in_plane}
use Rattle.zx_diagram.specs.declared.spider.Spider.{Spider}
use Rattle.zx_diagram.specs.declared.wire.Wire.{Wire}
use Rattle.zx_diagram.specs.declared.wire.Leg.{Leg}
use Rattle.zx_diagram.specs.Diagram.{Diagram, numbers, numbers_from}
use Rattle.zx_diagram.specs.Sum.{edge_mark, leg_mark}
use Rattle.graph_like.specs.Classes.{NamesClasses}

-- the smallest spiders of the classes, in order
abbrev pub leaders : Diagram → (ℕ → ℕ) → List ℕ
leaders d least = filter (λ u. least u == u) (numbers d)

-- the place of a number in a list
abbrev pub place : ℕ → List ℕ → ℕ
place u [] = 0
place u (v ∷ vs) = if u == v then 0 else suc (place u vs)

-- the vertex that a spider's class becomes: the classes' vertices are 0, 1, 2 and so on, by their smallest spiders
abbrev pub home_in : Diagram → (ℕ → ℕ) → ℕ → ℕ
home_in d least u = place (least u) (leaders d least)

-- the sum of the phases of the spiders of vertex p; the first of the list has this number
abbrev pub phases_at : (ℕ → ℕ) → ℕ → ℕ → List Spider → ℕ
phases_at home p number [] = 0
phases_at home p number (s ∷ ss) = (if home number == p then s.phase else 0) + phases_at home p (suc number) ss

-- how many Hadamard edges lead from the class of vertex p to itself
abbrev pub loops_at : List Spider → (ℕ → ℕ) → ℕ → List Wire → ℕ
loops_at spiders home p [] = 0
loops_at spiders home p (edge ∷ edges) =
    one_if (edge_mark spiders edge && ((home edge.a == p) && (home edge.b == p))) + loops_at spiders home p edges

-- the phase of a class: those of its spiders, and half a turn for each Hadamard edge inside it
abbrev pub class_phase : Diagram → (ℕ → ℕ) → ℕ → ℕ
class_phase d home p = (phases_at home p 0 d.spiders + half_turn * loops_at d.spiders home p d.edges) % turn

abbrev pub class_vertex : Diagram → (ℕ → ℕ) → ℕ → Vertex
class_vertex d home p = record { id = p; kind = in_plane XY (class_phase d home p) }

-- whether an odd number of Hadamard edges joins the classes of vertices p and q
abbrev pub joined_oddly : List Spider → (ℕ → ℕ) → List Wire → ℕ → ℕ → Bool
joined_oddly spiders home [] p q = false
joined_oddly spiders home (edge ∷ edges) p q =
    xor (edge_mark spiders edge && is_pair (home edge.a) (home edge.b) p q) (joined_oddly spiders home edges p q)

-- ends at the vertices of their classes, after the change of colour
abbrev pub ends_at : List Spider → (ℕ → ℕ) → List Leg → List End
ends_at spiders home legs = map (λ leg. record { vertex = home leg.spider; hadamard = leg_mark spiders leg }) legs

-- of ends at these vertices, the vertices of those that aren't the first at theirs; `seen` had one before
abbrev pub surplus_in : List ℕ → List ℕ → List ℕ
surplus_in seen [] = []
surplus_in seen (v ∷ vs) = if member v seen then v ∷ surplus_in seen vs else surplus_in (v ∷ seen) vs

-- the first end at a vertex stays there, each further one goes to the next new vertex, its mark toggled
abbrev pub placed_in : List ℕ → ℕ → List End → List End
placed_in seen next [] = []
placed_in seen next (e ∷ es) =
    if member e.vertex seen
    then record { vertex = next; hadamard = not e.hadamard } ∷ placed_in seen (suc next) es
    else e ∷ placed_in (e.vertex ∷ seen) next es

-- whether the pair of p and q stands an odd number of times among those of a new vertex, the first of this number,
-- with the listed one at its place
abbrev pub hangs : ℕ → List ℕ → ℕ → ℕ → Bool
hangs next [] p q = false
hangs next (v ∷ vs) p q = xor (is_pair v next p q) (hangs (suc next) vs p q)

abbrev pub inputs_at : Diagram → (ℕ → ℕ) → List End
inputs_at d home = ends_at d.spiders home d.inputs

abbrev pub outputs_at : Diagram → (ℕ → ℕ) → List End
outputs_at d home = ends_at d.spiders home d.outputs

abbrev pub surplus : List End → List ℕ
surplus ends = surplus_in [] (end_vertices ends)

-- the vertices of all surplus ends, those of inputs first
abbrev pub all_surplus : Diagram → (ℕ → ℕ) → List ℕ
all_surplus d home = surplus (inputs_at d home) ++ surplus (outputs_at d home)

-- p and q are adjacent where an odd number of edges joins them: Hadamard edges between classes, and the one between a
-- new vertex and the vertex whose surplus end it takes; the classes' vertices are the numbers below `count`
abbrev pub adjacent : Diagram → (ℕ → ℕ) → ℕ → ℕ → ℕ → Bool
adjacent d home count p q = xor (joined_oddly d.spiders home d.edges p q) (hangs count (all_surplus d home) p q)

-- the graph with the vertices of the classes first, then those of surplus ends
abbrev pub like_graph : Diagram → (ℕ → ℕ) → ℕ → Graph
like_graph d home count = record {
  vertices = map (class_vertex d home) (numbers_from 0 count)
      ++ map spider_of_phase_zero (numbers_from count (length (all_surplus d home)));
  edges = edges_of (adjacent d home count) (numbers_from 0 (count + length (all_surplus d home)));
  inputs = placed_in [] count (inputs_at d home);
  outputs = placed_in [] (count + length (surplus (inputs_at d home))) (outputs_at d home);
}

-- g is the graph-like form of the diagram
pub record IsLikeForm (d : Diagram) (g : Graph) : Type 0 where
  pub least : ℕ → ℕ
  pub classes : NamesClasses d least
  pub graph : g ≡ like_graph d (home_in d least) (length (leaders d least))
