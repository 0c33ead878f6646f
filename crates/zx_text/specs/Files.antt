-- Graph files. The form is this project's own; docs/LANGUAGE.md has it on one page.
use Rattle.std.specs.Prelude.{ℕ, ◌/◌, not, List, [], ◌∷◌, ◌++◌, map, filter, codes, Option, None, Some}
use Rattle.std.specs.List.{flat_map}
use Rattle.zx_model.specs.Bits.{member}
use Rattle.zx_calculus.specs.Graph.{Vertex, Edge, End, Graph, ids, end_vertices}
use Rattle.gflow_laws.specs.Flow.{Correction, order_of, set_of}
use Rattle.zx_text.specs.Lines.{Line, VertexLine, EdgeLine, InputLine, OutputLine, FlowLine, OrderLine, CorrectLine}
use Rattle.zx_text.specs.Lines.{EndLine, spelled_line}

pub data Version : Type 0 where
  One Two : Version

abbrev pub header : Version → List ℕ
header One = codes "zxg 1\n"
header Two = codes "zxg 2\n"

-- in how many sixteenth turns phases are written: in version 1 by eighth turns
abbrev pub unit : Version → ℕ
unit One = 2
unit Two = 1

-- the vertices that have no output, by rising id
abbrev pub non_outputs : Graph → List ℕ
non_outputs g = filter (λ v. not (member v (end_vertices g.outputs))) (ids g.vertices)

abbrev pub vertex_line : Version → Vertex → Line
vertex_line version v = VertexLine v.id v.kind.plane (v.kind.phase / unit version)

abbrev pub edge_line : Edge → Line
edge_line e = EdgeLine e.lower e.higher

abbrev pub input_line : End → Line
input_line e = InputLine e.vertex e.hadamard

abbrev pub output_line : End → Line
output_line e = OutputLine e.vertex e.hadamard

-- a flow: its order, and for each non-output by rising id its set
abbrev pub flow_lines : Graph → Option (List Correction) → List Line
flow_lines g None = []
flow_lines g (Some table) =
    FlowLine ∷ OrderLine (order_of table) ∷ map (λ v. CorrectLine v (set_of table v)) (non_outputs g)

-- all lines after the first
abbrev pub lines : Version → Graph → Option (List Correction) → List Line
lines version g table =
    map (vertex_line version) g.vertices ++ (map edge_line g.edges ++ (map input_line g.inputs
    ++ (map output_line g.outputs ++ (flow_lines g table ++ EndLine ∷ []))))

-- the bytes of a file
unfoldable pub spelled : Version → Graph → Option (List Correction) → List ℕ
spelled version g table = header version ++ flat_map spelled_line (lines version g table)
