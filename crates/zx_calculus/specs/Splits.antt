-- The split of an end: an identity spider between a vertex and its input or output wire.
-- Duncan and others (Quantum 4, 279, 2020), on boundary pivots; Backens and others (Quantum 5, 421, 2021), on
-- inserting identity spiders at inputs and outputs.
use Rattle.std.specs.Prelude.{◌≡◌, ◌+◌, ℕ, suc, negsuc, Bool, true, false, if◌then◌else◌, not, ◌&&◌, ◌||◌, ◌==◌}
use Rattle.std.specs.Prelude.{List, [], ◌∷◌}
use Rattle.zx_model.specs.Bits.{member, one_if}
use Rattle.zx_model.specs.Scalar.{one_scalar}
use Rattle.zx_model.specs.declared.scalar.Scalar.{Scalar}
use Rattle.zx_calculus.specs.Graph.{XY, Vertex, Edge, End, Graph, ids, joined, end_vertices, OrderedEdges}
use Rattle.zx_calculus.specs.Graph.{insert_vertex}
use Rattle.zx_calculus.specs.Turns.{in_plane}
use Rattle.zx_calculus.specs.Scalars.{root_of_two_to}
use Rattle.zx_calculus.specs.Adjacency.{edges_of}
use Rattle.zx_calculus.specs.Edits.{is_pair}
use Rattle.zx_calculus.specs.Counts.{odd_phases, even_interior, not_XY, has_input, has_output, is_even_at}

-- the vertex that a split makes
abbrev pub spider_of_phase_zero : ℕ → Vertex
spider_of_phase_zero new = record { id = new; kind = in_plane XY 0 }

-- the end at b moves to the new vertex, its mark toggled
abbrev pub move_end : ℕ → ℕ → List End → List End
move_end b new [] = []
move_end b new (e ∷ es) =
    (if b == e.vertex then record { vertex = new; hadamard = not e.hadamard } else e)
    ∷ move_end b new es

-- h is g after the input at b moved to the new XY vertex of phase 0, adjacent to b alone, with its
-- mark toggled
pub record IsSplitInput (g : Graph) (b new : ℕ) (h : Graph) : Type 0 where
  pub fresh : member new (ids g.vertices) ≡ false
  pub has_input : member b (end_vertices g.inputs) ≡ true
  pub vertices : h.vertices ≡ insert_vertex (spider_of_phase_zero new) g.vertices
  pub ordered : OrderedEdges (ids h.vertices) h.edges
  pub edges : (p q : ℕ) → joined h.edges p q ≡ (joined g.edges p q || is_pair b new p q)
  pub inputs : h.inputs ≡ move_end b new g.inputs
  pub outputs : h.outputs ≡ g.outputs

-- h is g after the output at b moved to the new XY vertex of phase 0, adjacent to b alone, with its
-- mark toggled
pub record IsSplitOutput (g : Graph) (b new : ℕ) (h : Graph) : Type 0 where
  pub fresh : member new (ids g.vertices) ≡ false
  pub has_output : member b (end_vertices g.outputs) ≡ true
  pub vertices : h.vertices ≡ insert_vertex (spider_of_phase_zero new) g.vertices
  pub ordered : OrderedEdges (ids h.vertices) h.edges
  pub edges : (p q : ℕ) → joined h.edges p q ≡ (joined g.edges p q || is_pair b new p q)
  pub inputs : h.inputs ≡ g.inputs
  pub outputs : h.outputs ≡ move_end b new g.outputs

-- whether the input at b, or the output, can be split: there is one
abbrev pub may_split_input : Graph → ℕ → Bool
may_split_input g b = member b (end_vertices g.inputs)

abbrev pub may_split_output : Graph → ℕ → Bool
may_split_output g b = member b (end_vertices g.outputs)

-- the least number from n on that isn't in a rising list of such numbers
abbrev pub least_free_from : ℕ → List ℕ → ℕ
least_free_from n [] = n
least_free_from n (i ∷ is) = if n == i then least_free_from (suc n) is else n

-- the least number that isn't in a rising list
abbrev pub least_free : List ℕ → ℕ
least_free ids = least_free_from 0 ids

-- the id of the vertex that a split makes, the least free one
abbrev pub new_vertex : Graph → ℕ
new_vertex g = least_free (ids g.vertices)

-- the vertices and the edges that a split makes
abbrev pub split_vertices : Graph → ℕ → List Vertex
split_vertices g new = insert_vertex (spider_of_phase_zero new) g.vertices

abbrev pub split_edges : Graph → ℕ → ℕ → List Edge
split_edges g b new = edges_of (λ p q. joined g.edges p q || is_pair b new p q) (ids (split_vertices g new))

-- the graph that a split makes, with this new vertex
abbrev pub split_input_graph : Graph → ℕ → ℕ → Graph
split_input_graph g b new = record {
  vertices = split_vertices g new;
  edges = split_edges g b new;
  inputs = move_end b new g.inputs;
  outputs = g.outputs;
}

abbrev pub split_output_graph : Graph → ℕ → ℕ → Graph
split_output_graph g b new = record {
  vertices = split_vertices g new;
  edges = split_edges g b new;
  inputs = g.inputs;
  outputs = move_end b new g.outputs;
}

-- the mark of the end at b
abbrev pub mark_of : List End → ℕ → Bool
mark_of [] b = false
mark_of (e ∷ es) b = if b == e.vertex then e.hadamard else mark_of es b

-- its scalar: a half, where the end is plain, as two Hadamard edges in a row are twice a wire.
-- Backens and others (Quantum 5, 421, 2021) give the rewrite up to a scalar
abbrev pub split_scalar : Bool → Scalar
split_scalar hadamard = if hadamard then one_scalar else root_of_two_to (negsuc 1)

-- what it does to the counts: b becomes interior, unless it has an output; the new vertex has the input
pub record CountsAfterSplitInput (g : Graph) (b : ℕ) (h : Graph) : Type 0 where
  pub odd_phases : odd_phases h ≡ odd_phases g
  pub even_interior : even_interior h ≡ even_interior g + one_if (not (has_output g b) && is_even_at g b)
  pub not_XY : not_XY h ≡ not_XY g

-- and of an output: b becomes interior, unless it has an input; the new vertex has the output
pub record CountsAfterSplitOutput (g : Graph) (b : ℕ) (h : Graph) : Type 0 where
  pub odd_phases : odd_phases h ≡ odd_phases g
  pub even_interior : even_interior h ≡ even_interior g + one_if (not (has_input g b) && is_even_at g b)
  pub not_XY : not_XY h ≡ not_XY g
