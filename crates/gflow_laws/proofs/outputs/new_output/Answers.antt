-- The law, by its lemma.
use Rattle.gflow_laws.proofs.Splits.{new_output_flow}
use Rattle.gflow_laws.proofs.outputs.new_output.Goals as goal

pub returns : goal.returns
returns c = new_output_flow
