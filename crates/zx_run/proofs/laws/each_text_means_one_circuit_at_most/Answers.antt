use Rattle.zx_run.proofs.FaultLemmas.{one_meaning}
use Rattle.zx_run.proofs.laws.each_text_means_one_circuit_at_most.Goals as goal

pub returns : goal.returns
returns c = one_meaning
