-- Lines as the code has them.
use Rattle.std.specs.Prelude.{Bool, true, ◌&&◌}
use Rattle.std.specs.List.{list_all}
use Rattle.open_graph.specs.Planes.{plane_named}
use Rattle.zx_text.specs.Lines as zx
use Rattle.zx_text.specs.Internal.SmallNumbers.{is_small}
use Rattle.zx_text.specs.declared.line.Line.{Line}
use Rattle.zx_text.specs.declared.line.Line.TheVariants.{Vertex, Edge, Input, Output, Flow, Order, Correct, End}

-- the line that a value of the code stands for
abbrev pub line_said : Line → zx.Line
line_said (Vertex number plane phase) = zx.VertexLine number (plane_named plane) phase
line_said (Edge a b) = zx.EdgeLine a b
line_said (Input v hadamard) = zx.InputLine v hadamard
line_said (Output v hadamard) = zx.OutputLine v hadamard
line_said Flow = zx.FlowLine
line_said (Order order) = zx.OrderLine order.items
line_said (Correct v members) = zx.CorrectLine v members.items
line_said End = zx.EndLine

-- whether all its numbers fit the code's own
abbrev pub has_small : zx.Line → Bool
has_small (zx.VertexLine i plane phase) = is_small i && is_small phase
has_small (zx.EdgeLine a b) = is_small a && is_small b
has_small (zx.InputLine v hadamard) = is_small v
has_small (zx.OutputLine v hadamard) = is_small v
has_small zx.FlowLine = true
has_small (zx.OrderLine order) = list_all is_small order
has_small (zx.CorrectLine v members) = is_small v && list_all is_small members
has_small zx.EndLine = true
