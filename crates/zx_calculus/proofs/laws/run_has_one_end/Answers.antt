use Rattle.zx_calculus.proofs.Steps.{run_result}
use Rattle.zx_calculus.proofs.laws.run_has_one_end.Goals as goal

pub returns : goal.returns
returns c = run_result
