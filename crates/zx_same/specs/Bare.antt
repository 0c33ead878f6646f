-- Open graphs of which nothing is left but wires that go straight through, whose maps are the identity's up to a
-- scalar. Duncan, Kissinger, Perdrix and van de Wetering (Quantum 4, 279, 2020), on simplification to the identity.
use Rattle.std.specs.Prelude.{◌==◌, ◌&&◌, ◌||◌, not, ℕ, Bool, length}
use Rattle.std.specs.List.{list_all, zip}
use Rattle.zx_model.specs.Bits.{xor, member}
use Rattle.zx_calculus.specs.Graph.{End, Graph, ids, joined, phase_of, neighbours, end_vertices, is_interior}

-- the vertex has an end, and phase 0
abbrev pub is_bare_vertex : Graph → ℕ → Bool
is_bare_vertex g v = not (is_interior g v) && (phase_of g v == 0)

-- u is adjacent to v and to no other vertex
abbrev pub is_only_neighbour : Graph → ℕ → ℕ → Bool
is_only_neighbour g u v = joined g.edges u v && (length (neighbours g u) == 1)

-- both ends stand at one vertex, which has no neighbour, and both carry a Hadamard or neither does
abbrev pub is_wire_at_vertex : Graph → End → End → Bool
is_wire_at_vertex g input output =
    (input.vertex == output.vertex) && (length (neighbours g input.vertex) == 0)
    && not (xor input.hadamard output.hadamard)

-- the ends stand at two vertices, each the only neighbour of the other, which have no other end; one of the two ends
-- carries a Hadamard
abbrev pub is_wire_along_edge : Graph → End → End → Bool
is_wire_along_edge g input output =
    is_only_neighbour g input.vertex output.vertex && is_only_neighbour g output.vertex input.vertex
    && not (member input.vertex (end_vertices g.outputs)) && not (member output.vertex (end_vertices g.inputs))
    && xor input.hadamard output.hadamard

abbrev pub is_bare_wire : Graph → End × End → Bool
is_bare_wire g ends = is_wire_at_vertex g ends.0 ends.1 || is_wire_along_edge g ends.0 ends.1

-- each vertex has an end and phase 0, there are as many inputs as outputs, and the input and the output at each place
-- are the ends of one wire
abbrev pub is_bare : Graph → Bool
is_bare g =
    list_all (is_bare_vertex g) (ids g.vertices) && (length g.inputs == length g.outputs)
    && list_all (is_bare_wire g) (zip g.inputs g.outputs)

-- no vertex is interior
abbrev pub has_only_ends : Graph → Bool
has_only_ends g = list_all (λ v. not (is_interior g v)) (ids g.vertices)
