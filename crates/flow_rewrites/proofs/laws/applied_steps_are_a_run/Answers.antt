-- The laws, by their lemmas.
use Rattle.flow_rewrites.proofs.AppliedSteps.{applied_run, applied_kept, applied_flow}
use Rattle.flow_rewrites.proofs.laws.applied_steps_are_a_run.Goals as goal

pub returns-clause-run : goal.returns-clause-run
returns-clause-run c = applied_run

pub returns-clause-kept : goal.returns-clause-kept
returns-clause-kept c = applied_kept

pub returns-clause-flow : goal.returns-clause-flow
returns-clause-flow c = applied_flow
