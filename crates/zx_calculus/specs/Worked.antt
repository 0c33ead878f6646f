-- Worked graphs, for facts by computation.
use Rattle.std.specs.Prelude.{ℕ, ◌+◌, true, List, [], ◌∷◌}
use Rattle.zx_model.specs.Phase.{half_turn, quarter_turn, eighth_turn}
use Rattle.zx_calculus.specs.Graph.{Plane, XY, XZ, YZ, Vertex, Edge, End, Graph, plain}
use Rattle.zx_calculus.specs.Turns.{in_plane}

-- three quarter turns
abbrev pub three_quarters : ℕ
three_quarters = half_turn + quarter_turn

abbrev pub vertex : ℕ → Plane → ℕ → Vertex
vertex id plane phase = record { id = id; kind = in_plane plane phase }

abbrev pub edge : ℕ → ℕ → Edge
edge p q = record { lower = p; higher = q }

abbrev pub graph : List Vertex → List Edge → List End → List End → Graph
graph vertices edges inputs outputs = record { vertices = vertices; edges = edges; inputs = inputs; outputs = outputs }

-- three spiders in a path, the middle one of a quarter turn
abbrev pub path_of_three : Graph
path_of_three =
    graph (vertex 0 XY 0 ∷ (vertex 1 XY quarter_turn ∷ (vertex 2 XY 0 ∷ []))) (edge 0 1 ∷ (edge 1 2 ∷ []))
    (plain 0 ∷ []) (plain 2 ∷ [])

abbrev pub path_complemented : Graph
path_complemented =
    graph (vertex 0 XY quarter_turn ∷ (vertex 1 XZ half_turn ∷ (vertex 2 XY quarter_turn ∷ [])))
    (edge 0 1 ∷ (edge 0 2 ∷ (edge 1 2 ∷ []))) (plain 0 ∷ []) (plain 2 ∷ [])

abbrev pub path_deleted : Graph
path_deleted =
    graph (vertex 0 XY three_quarters ∷ (vertex 2 XY three_quarters ∷ [])) (edge 0 2 ∷ []) (plain 0 ∷ []) (plain 2 ∷ [])

-- four spiders in a path
abbrev pub path_of_four : Graph
path_of_four =
    graph (vertex 0 XY 0 ∷ (vertex 1 XY 0 ∷ (vertex 2 XY 0 ∷ (vertex 3 XY 0 ∷ []))))
    (edge 0 1 ∷ (edge 1 2 ∷ (edge 2 3 ∷ []))) (plain 0 ∷ []) (plain 3 ∷ [])

abbrev pub path_pivoted : Graph
path_pivoted =
    graph (vertex 0 XY 0 ∷ (vertex 1 YZ 0 ∷ (vertex 2 YZ 0 ∷ (vertex 3 XY 0 ∷ []))))
    (edge 0 2 ∷ (edge 0 3 ∷ (edge 1 2 ∷ (edge 1 3 ∷ [])))) (plain 0 ∷ []) (plain 3 ∷ [])

-- two gadgets of an eighth turn with equal neighbours
abbrev pub twins : Graph
twins =
    graph (vertex 0 XY 0 ∷ (vertex 1 XY 0 ∷ (vertex 2 YZ eighth_turn ∷ (vertex 3 YZ eighth_turn ∷ []))))
    (edge 0 2 ∷ (edge 0 3 ∷ (edge 1 2 ∷ (edge 1 3 ∷ []))))
    (plain 0 ∷ (plain 1 ∷ [])) (plain 0 ∷ (plain 1 ∷ []))

-- what fusion, local complementation and deletion make of them
abbrev pub twins_reduced : Graph
twins_reduced =
    graph (vertex 0 XY quarter_turn ∷ (vertex 1 XY quarter_turn ∷ [])) (edge 0 1 ∷ []) (plain 0 ∷ (plain 1 ∷ []))
    (plain 0 ∷ (plain 1 ∷ []))

-- a gadget on one spider, and a lone one
abbrev pub small_gadgets : Graph
small_gadgets =
    graph
    (vertex 0 XY 0 ∷ (vertex 1 YZ (quarter_turn + eighth_turn) ∷ (vertex 2 YZ (half_turn + eighth_turn) ∷ [])))
    (edge 0 1 ∷ []) (plain 0 ∷ []) (plain 0 ∷ [])

abbrev pub small_gadgets_reduced : Graph
small_gadgets_reduced = graph (vertex 0 XY (quarter_turn + eighth_turn) ∷ []) [] (plain 0 ∷ []) (plain 0 ∷ [])

-- a path of three with a triangle: the last vertex is adjacent to both in the middle
abbrev pub triangle : Graph
triangle =
    graph (vertex 0 XY 0 ∷ vertex 1 XY 0 ∷ vertex 2 XY 0 ∷ vertex 3 XY 0 ∷ [])
    (edge 0 1 ∷ edge 1 2 ∷ edge 1 3 ∷ edge 2 3 ∷ []) (plain 0 ∷ []) (plain 3 ∷ [])

-- after a pivot of the middle two their common neighbour has a half turn
abbrev pub triangle_pivoted : Graph
triangle_pivoted =
    graph (vertex 0 XY 0 ∷ vertex 1 YZ 0 ∷ vertex 2 YZ 0 ∷ vertex 3 XY half_turn ∷ [])
    (edge 0 2 ∷ edge 0 3 ∷ edge 1 2 ∷ edge 1 3 ∷ edge 2 3 ∷ [])
    (plain 0 ∷ []) (plain 3 ∷ [])

-- the path of three with its input split
abbrev pub path_split : Graph
path_split =
    graph (vertex 0 XY 0 ∷ vertex 1 XY quarter_turn ∷ vertex 2 XY 0 ∷ vertex 3 XY 0 ∷ [])
    (edge 0 1 ∷ edge 0 3 ∷ edge 1 2 ∷ [])
    (record { vertex = 3; hadamard = true } ∷ []) (plain 2 ∷ [])

-- two gadgets that share one neighbour of two
abbrev pub overlapping_gadgets : Graph
overlapping_gadgets =
    graph (vertex 0 XY 0 ∷ vertex 1 XY 0 ∷ vertex 2 YZ eighth_turn ∷ vertex 3 YZ eighth_turn ∷ [])
    (edge 0 2 ∷ edge 0 3 ∷ edge 1 3 ∷ [])
    (plain 0 ∷ plain 1 ∷ []) (plain 0 ∷ plain 1 ∷ [])
