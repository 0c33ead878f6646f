use Rattle.circuit_graph.proofs.Existing.{translates}
use Rattle.growing_laws.proofs.circuits.graphs_of_circuits.Goals as goal

pub returns : goal.returns
returns c = translates
