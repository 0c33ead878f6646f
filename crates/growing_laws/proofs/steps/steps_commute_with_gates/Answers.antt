-- The laws, by their lemmas.
use Rattle.growing_laws.proofs.StepsPlaced.{step_placed, step_scalar_placed}
use Rattle.growing_laws.proofs.steps.steps_commute_with_gates.Goals as goal

pub returns-clause-step : goal.returns-clause-step
returns-clause-step c = step_placed

pub returns-clause-scalar : goal.returns-clause-scalar
returns-clause-scalar c = step_scalar_placed
