use Rattle.zx_calculus.proofs.Steps.{after_step, step_allowed, step_result}
use Rattle.zx_calculus.proofs.laws.program_is_step.Goals as goal

pub returns : goal.returns
returns c = record { allowed = step_allowed; made = after_step; only = step_result }
