use Rattle.gflow_laws.proofs.Failing.{no_flow}
use Rattle.gflow_laws.proofs.examples.each_condition_fails_alone.Goals as goal

pub returns-clause-no_flow : goal.returns-clause-no_flow
returns-clause-no_flow c = no_flow
