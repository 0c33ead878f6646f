use Rattle.zx_calculus.proofs.Steps.{step_odd, run_odd}
use Rattle.zx_calculus.proofs.laws.step_raises_no_odd_phases.Goals as goal

pub returns-clause-step : goal.returns-clause-step
returns-clause-step c = step_odd

pub returns-clause-run : goal.returns-clause-run
returns-clause-run c = run_odd
