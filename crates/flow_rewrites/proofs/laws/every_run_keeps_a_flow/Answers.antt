-- The law, by its lemma.
use Rattle.std.proofs.Common.{map}
use Rattle.gflow_laws.proofs.Steps.{run_keeps}
use Rattle.graph_rewrites.specs.Steps.{step_named}
use Rattle.flow_rewrites.proofs.laws.every_run_keeps_a_flow.Goals as goal

pub returns : goal.returns
returns c = λ g steps h table wf flow run. run_keeps g (map step_named steps) h table wf run flow
