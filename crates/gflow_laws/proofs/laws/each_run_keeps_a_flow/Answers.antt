-- The laws, by their lemmas.
use Rattle.gflow_laws.proofs.Steps.{run_flow, run_keeps}
use Rattle.gflow_laws.proofs.laws.each_run_keeps_a_flow.Goals as goal

pub returns-clause-kept : goal.returns-clause-kept
returns-clause-kept c = run_keeps

pub returns-clause-flow : goal.returns-clause-flow
returns-clause-flow c = run_flow
