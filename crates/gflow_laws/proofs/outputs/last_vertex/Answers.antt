-- The laws, by their lemmas.
use Rattle.gflow_laws.proofs.LastLaws.{last-members, last-XY, last-YZ, last-not_odd, last_of_graph}
use Rattle.gflow_laws.proofs.outputs.last_vertex.Goals as goal

pub returns : goal.returns
returns c = record {
  members = last-members;
  XY = last-XY;
  YZ = last-YZ;
  YZ_itself = last-not_odd;
  graph = last_of_graph;
}
