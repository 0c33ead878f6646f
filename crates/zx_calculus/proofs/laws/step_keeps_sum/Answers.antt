use Rattle.zx_calculus.proofs.Steps.{step_sum_times}
use Rattle.zx_calculus.proofs.StepScalars.{step_within}
use Rattle.zx_calculus.proofs.laws.step_keeps_sum.Goals as goal

pub returns : goal.returns
returns c = record { scaled = step_sum_times; small = step_within }
