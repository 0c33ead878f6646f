-- The laws, by their lemmas.
use Rattle.gflow_laws.proofs.AllEnds.{same_members, all_ends}
use Rattle.gflow_laws.proofs.outputs.all_inputs.Goals as goal

pub returns-clause-same_members : goal.returns-clause-same_members
returns-clause-same_members c = same_members

pub returns-clause-all_ends : goal.returns-clause-all_ends
returns-clause-all_ends c = all_ends
