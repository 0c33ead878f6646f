-- Graphs given by which vertices are adjacent: what the programs of rewrites make.
use Rattle.std.specs.Prelude.{ℕ, Bool, if◌then◌else◌, List, [], ◌∷◌, ◌++◌}
use Rattle.zx_calculus.specs.Graph.{Vertex, Edge, Graph, ids}

-- the edges from v to those listed that are adjacent to it
abbrev pub edges_from : (ℕ → ℕ → Bool) → ℕ → List ℕ → List Edge
edges_from adjacent v [] = []
edges_from adjacent v (w ∷ ws) =
    if adjacent v w then record { lower = v; higher = w } ∷ edges_from adjacent v ws else edges_from adjacent v ws

-- each adjacent pair of listed ones once, in the order of the list
abbrev pub edges_of : (ℕ → ℕ → Bool) → List ℕ → List Edge
edges_of adjacent [] = []
edges_of adjacent (v ∷ vs) = edges_from adjacent v vs ++ edges_of adjacent vs

-- g with other vertices, adjacent as stated
abbrev pub adjacent_graph : Graph → List Vertex → (ℕ → ℕ → Bool) → Graph
adjacent_graph g vertices adjacent =
    record { vertices = vertices; edges = edges_of adjacent (ids vertices); inputs = g.inputs; outputs = g.outputs }
