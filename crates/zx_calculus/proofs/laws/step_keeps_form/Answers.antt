use Rattle.zx_calculus.proofs.Steps.{step_kept, run_kept, run_inputs_kept, run_outputs_kept}
use Rattle.zx_calculus.proofs.laws.step_keeps_form.Goals as goal

pub returns : goal.returns
returns c = record { step = step_kept; run = run_kept; inputs = run_inputs_kept; outputs = run_outputs_kept }
