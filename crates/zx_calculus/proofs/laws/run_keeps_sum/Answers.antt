use Rattle.zx_calculus.proofs.Steps.{run_proportional}
use Rattle.zx_calculus.proofs.laws.run_keeps_sum.Goals as goal

pub returns : goal.returns
returns c = run_proportional
