-- What lines lead to, one after the other: a file is taken in exactly where its lines lead from nothing to its end.
use Rattle.std.specs.Prelude.{ℕ, ◌*◌, Bool, not, ◌&&◌, ◌==◌, if◌then◌else◌, ltb, nat_le}
use Rattle.std.specs.Prelude.{List, [], ◌∷◌, ◌++◌, length, map, Option, None, Some}
use Rattle.std.specs.List.{list_all}
use Rattle.zx_model.specs.Phase.{turn}
use Rattle.zx_model.specs.Bits.{member}
use Rattle.zx_calculus.specs.Graph.{Plane, Graph, Vertex, End, end_vertices, edge_before, in_order, different}
use Rattle.zx_calculus.specs.Graph.{is_XY, plane_of}
use Rattle.gflow_laws.specs.Flow.{Correction}
use Rattle.gflow_laws.specs.Tables.{with_sets}
use Rattle.zx_text.specs.Files.{Version, unit, non_outputs}
use Rattle.zx_text.specs.Reading.{Wanted, is_wanted, most_ends}
use Rattle.zx_text.specs.Lines.{Line, VertexLine, EdgeLine, InputLine, OutputLine, FlowLine, OrderLine}
use Rattle.zx_text.specs.Lines.{CorrectLine, EndLine}

-- what the lines of vertices, edges, inputs and outputs say so far, and which of these the last line was (0 to 3)
pub record Part : Type 0 where
  pub section : ℕ
  pub graph : Graph

-- a graph with the order of its flow, the vertices whose sets are there, and those whose sets are still to come
pub record Sets : Type 0 where
  pub graph : Graph
  pub table : List Correction
  pub done : List ℕ
  pub left : List ℕ

-- what the lines so far say: before the line of a flow, behind it, behind that of its order, and behind the last line
pub data LinesSoFar : Type 0 where
  InGraph : Part → LinesSoFar
  AtFlow : Graph → LinesSoFar
  InSets : Sets → LinesSoFar
  Over : Graph → Option (List Correction) → LinesSoFar

abbrev pub begun : Part
begun = record { section = 0; graph = record { vertices = []; edges = []; inputs = []; outputs = [] } }

abbrev pub only_if : {A : Type 0} → Bool → A → Option A
only_if test x = if test then Some x else None

abbrev pub vertex_fits : Version → Part → ℕ → ℕ → Bool
vertex_fits version p i phase =
    nat_le p.section 0 && ((i == length p.graph.vertices) && ltb (phase * unit version) turn)

abbrev pub edge_fits : Part → ℕ → ℕ → Bool
edge_fits p a b =
    nat_le p.section 1 && (ltb a b && (ltb b (length p.graph.vertices)
    && list_all (λ d. edge_before d (record { lower = a; higher = b })) p.graph.edges))

-- whether an end at v may follow those of its kind
abbrev pub end_fits : Graph → List End → ℕ → Bool
end_fits g ends v =
    ltb (length ends) most_ends && (ltb v (length g.vertices) && (is_XY (plane_of g v)
    && not (member v (end_vertices ends))))

abbrev pub order_fits : Graph → List ℕ → Bool
order_fits g order =
    in_order different order && (list_all (λ v. member v (non_outputs g)) order
    && list_all (λ v. member v order) (non_outputs g))

abbrev pub set_fits : Graph → List ℕ → Bool
set_fits g members = in_order ltb members && list_all (λ w. ltb w (length g.vertices)) members

-- the sets of an order before any of them is known
abbrev pub no_sets : List ℕ → List Correction
no_sets order = map (λ v. record { vertex = v; members = [] }) order

abbrev pub with_set : ℕ → List ℕ → List Correction → List Correction
with_set v members table = with_sets (λ u set. if u == v then members else set) table

-- the vertex, the edge or the end that a line adds
abbrev pub vertex_added : Version → Part → ℕ → Plane → ℕ → Part
vertex_added version p i plane phase = record p {
  graph = record p.graph {
    vertices = p.graph.vertices
        ++ record { id = i; kind = record { plane = plane; phase = phase * unit version } } ∷ [];
  };
}

abbrev pub edge_added : Part → ℕ → ℕ → Part
edge_added p a b = record {
  section = 1;
  graph = record p.graph { edges = p.graph.edges ++ record { lower = a; higher = b } ∷ [] };
}

abbrev pub input_added : Part → ℕ → Bool → Part
input_added p v hadamard = record {
  section = 2;
  graph = record p.graph { inputs = p.graph.inputs ++ record { vertex = v; hadamard = hadamard } ∷ [] };
}

abbrev pub output_added : Part → ℕ → Bool → Part
output_added p v hadamard = record {
  section = 3;
  graph = record p.graph { outputs = p.graph.outputs ++ record { vertex = v; hadamard = hadamard } ∷ [] };
}

-- what one more line leads to, if it fits
abbrev pub graph_step : Version → Wanted → Part → Line → Option LinesSoFar
graph_step version wanted p (VertexLine i plane phase) =
    only_if (vertex_fits version p i phase) (InGraph (vertex_added version p i plane phase))
graph_step version wanted p (EdgeLine a b) = only_if (edge_fits p a b) (InGraph (edge_added p a b))
graph_step version wanted p (InputLine v hadamard) =
    only_if (nat_le p.section 2 && end_fits p.graph p.graph.inputs v) (InGraph (input_added p v hadamard))
graph_step version wanted p (OutputLine v hadamard) =
    only_if (nat_le p.section 3 && end_fits p.graph p.graph.outputs v) (InGraph (output_added p v hadamard))
graph_step version wanted p FlowLine = Some (AtFlow p.graph)
graph_step version wanted p (OrderLine order) = None
graph_step version wanted p (CorrectLine v members) = None
graph_step version wanted p EndLine = only_if (is_wanted wanted None) (Over p.graph None)

-- behind the order no set is there
abbrev pub ordered : Graph → List ℕ → Sets
ordered g order = record { graph = g; table = no_sets order; done = []; left = non_outputs g }

abbrev pub set_added : Sets → List ℕ → ℕ → List ℕ → Sets
set_added p left v members =
    record { graph = p.graph; table = with_set v members p.table; done = p.done ++ v ∷ []; left = left }

abbrev pub flow_step : Graph → Line → Option LinesSoFar
flow_step g (OrderLine order) = only_if (order_fits g order) (InSets (ordered g order))
flow_step g line = None

-- behind the order: the set of the next vertex, and the end behind the last one
abbrev pub set_step : Sets → List ℕ → Line → Option LinesSoFar
set_step p [] EndLine = Some (Over p.graph (Some p.table))
set_step p (next ∷ left) (CorrectLine v members) =
    only_if ((v == next) && set_fits p.graph members) (InSets (set_added p left v members))
set_step p left line = None

abbrev pub file_step : Version → Wanted → LinesSoFar → Line → Option LinesSoFar
file_step version wanted (InGraph p) line = graph_step version wanted p line
file_step version wanted (AtFlow g) line = flow_step g line
file_step version wanted (InSets p) line = set_step p p.left line
file_step version wanted (Over g table) line = None

-- the vertices so far
abbrev pub vertices_of : LinesSoFar → List Vertex
vertices_of (InGraph p) = p.graph.vertices
vertices_of (AtFlow g) = g.vertices
vertices_of (InSets p) = p.graph.vertices
vertices_of (Over g table) = g.vertices
