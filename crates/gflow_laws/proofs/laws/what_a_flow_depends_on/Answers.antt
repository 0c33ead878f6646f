-- The laws, by their lemmas.
use Rattle.gflow_laws.proofs.Seeing.{flow-alike, flow-same_sets, phases_unseen}
use Rattle.gflow_laws.proofs.Steps.{same-table_after}
use Rattle.gflow_laws.proofs.laws.what_a_flow_depends_on.Goals as goal

pub returns : goal.returns
returns c = record {
  phases_unseen = phases_unseen;
  alike = flow-alike;
  same_sets = flow-same_sets;
  same_sets_after = same-table_after;
}
