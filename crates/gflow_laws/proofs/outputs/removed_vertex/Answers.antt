-- The laws, by their lemmas.
use Rattle.gflow_laws.proofs.LastLaws.{Flows-without_vertex, without_vertex_flow, removal-last}
use Rattle.gflow_laws.proofs.outputs.removed_vertex.Goals as goal

pub returns : goal.returns
returns c = record { flow = Flows-without_vertex; graph = without_vertex_flow; last = removal-last }
