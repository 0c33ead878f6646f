-- A graph and its flow with the vertices numbered from 0 by rising id, as files have them.
use Rattle.std.specs.Prelude.{ℕ, List, Option, length, filter, map, ltb}
use Rattle.std.specs.Option.{option_map}
use Rattle.zx_calculus.specs.Graph.{Vertex, Edge, End, Graph, ids}
use Rattle.gflow_laws.specs.Flow.{Correction}

-- how many of these ids are lower
abbrev pub number_in : List ℕ → ℕ → ℕ
number_in ids v = length (filter (λ u. ltb u v) ids)

abbrev pub vertex_with : (ℕ → ℕ) → Vertex → Vertex
vertex_with number v = record { id = number v.id; kind = v.kind }

abbrev pub edge_with : (ℕ → ℕ) → Edge → Edge
edge_with number e = record { lower = number e.lower; higher = number e.higher }

abbrev pub end_with : (ℕ → ℕ) → End → End
end_with number e = record { vertex = number e.vertex; hadamard = e.hadamard }

abbrev pub correction_with : (ℕ → ℕ) → Correction → Correction
correction_with number c = record { vertex = number c.vertex; members = map number c.members }

-- the graph with each id replaced by its number
abbrev pub numbered : Graph → Graph
numbered g =
    let number = number_in (ids g.vertices) in
    record {
      vertices = map (vertex_with number) g.vertices;
      edges = map (edge_with number) g.edges;
      inputs = map (end_with number) g.inputs;
      outputs = map (end_with number) g.outputs;
    }

-- the table of a flow of g, likewise
abbrev pub numbered_table : Graph → List Correction → List Correction
numbered_table g table = map (correction_with (number_in (ids g.vertices))) table

-- the flow of g, if there is one
abbrev pub numbered_flow : Graph → Option (List Correction) → Option (List Correction)
numbered_flow g flow = option_map (numbered_table g) flow
