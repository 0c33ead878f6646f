-- What the lines behind the first one say, as far as they lead.
use Rattle.std.specs.Prelude.{◌≡◌, ℕ, ◌≤◌, true, List, [], ◌∷◌, ◌++◌, map, codes, None, IfSome}
use Rattle.std.specs.List.{list_all}
use Rattle.zx_calculus.specs.Graph.{Graph}
use Rattle.gflow_laws.specs.Flow.{Correction, order_of, set_of}
use Rattle.zx_text.specs.Files.{Version, One, Two, vertex_line, edge_line, input_line, output_line, non_outputs, lines}
use Rattle.zx_text.specs.Lines.{Line, FlowLine, OrderLine, CorrectLine}
use Rattle.zx_text.specs.Reading.{Wanted, is_wanted, IsFile, IsFlowOfFile}
use Rattle.zx_text.specs.Internal.Stepping.{Part, Sets, LinesSoFar, InGraph, AtFlow, InSets, Over, order_fits, set_fits}

-- the first line of a version, without its line feed
abbrev pub word : Version → List ℕ
word One = codes "zxg 1"
word Two = codes "zxg 2"

abbrev pub graph_of : LinesSoFar → Graph
graph_of (InGraph p) = p.graph
graph_of (AtFlow g) = g
graph_of (InSets p) = p.graph
graph_of (Over g table) = g

-- the lines of a graph, before those of a flow
abbrev pub graph_lines : Version → Graph → List Line
graph_lines version g =
    map (vertex_line version) g.vertices ++ (map edge_line g.edges
    ++ (map input_line g.inputs ++ map output_line g.outputs))

-- the lines of the sets of these vertices
abbrev pub set_lines : List Correction → List ℕ → List Line
set_lines table vs = map (λ v. CorrectLine v (set_of table v)) vs

-- the lines that lead to a state
abbrev pub said : Version → LinesSoFar → List Line
said version (InGraph p) = graph_lines version p.graph
said version (AtFlow g) = graph_lines version g ++ FlowLine ∷ []
said version (InSets p) =
    graph_lines version p.graph ++ FlowLine ∷ OrderLine (order_of p.table) ∷ set_lines p.table p.done
said version (Over g table) = lines version g table

-- of the sections behind the one of the last line nothing is there
pub record IsInSection (p : Part) : Type 0 where
  pub edges : p.section ≤ 0 → p.graph.edges ≡ []
  pub inputs : p.section ≤ 1 → p.graph.inputs ≡ []
  pub outputs : p.section ≤ 2 → p.graph.outputs ≡ []

-- the order is one of the graph, and the sets that are there are those of its first vertices
pub record AreSetsOf (p : Sets) : Type 0 where
  pub all : non_outputs p.graph ≡ p.done ++ p.left
  pub order : order_fits p.graph (order_of p.table) ≡ true
  pub sets : list_all (λ v. set_fits p.graph (set_of p.table v)) p.done ≡ true

abbrev pub IsAtStage : Wanted → LinesSoFar → Type 0
IsAtStage wanted (InGraph p) = IsInSection p
IsAtStage wanted (AtFlow g) = Unit {0}
IsAtStage wanted (InSets p) = AreSetsOf p
IsAtStage wanted (Over g table) = IfSome table (IsFlowOfFile g) × (is_wanted wanted table ≡ true)

-- these lines are those that lead to the state, and they are lines of a file
pub record IsSoFar (version : Version) (wanted : Wanted) (st : LinesSoFar) (so_far : List Line) : Type 0 where
  pub lines_said : so_far ≡ said version st
  pub graph : IsFile version (graph_of st) None
  pub stage : IsAtStage wanted st
