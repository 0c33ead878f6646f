-- The laws, by their lemmas.
use Rattle.gflow_laws.proofs.LastLaws.{Flows-advanced, advanced_flow}
use Rattle.gflow_laws.proofs.outputs.advanced_output.Goals as goal

pub returns-clause-flow : goal.returns-clause-flow
returns-clause-flow c = Flows-advanced

pub returns-clause-graph : goal.returns-clause-graph
returns-clause-graph c = advanced_flow
