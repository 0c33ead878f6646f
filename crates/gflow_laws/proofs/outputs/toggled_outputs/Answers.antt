-- The laws, by their lemmas.
use Rattle.gflow_laws.proofs.OutputLaws.{Flows-toggled, Simple-toggled, toggled_flow}
use Rattle.gflow_laws.proofs.outputs.toggled_outputs.Goals as goal

pub returns : goal.returns
returns c = record { flow = Flows-toggled; simple = Simple-toggled; graph = toggled_flow }
