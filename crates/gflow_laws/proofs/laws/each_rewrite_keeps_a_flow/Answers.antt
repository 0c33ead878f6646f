-- The laws, by their lemmas.
use Rattle.gflow_laws.proofs.Complements.{local_complement_flow}
use Rattle.gflow_laws.proofs.Removals.{delete_flow, drop_lone_flow, fuse_into_flow, fuse_twin_flow}
use Rattle.gflow_laws.proofs.Pivots.{pivot_flow}
use Rattle.gflow_laws.proofs.Splits.{split_input_flow, split_output_flow}
use Rattle.gflow_laws.proofs.Steps.{step_flow}
use Rattle.gflow_laws.proofs.laws.each_rewrite_keeps_a_flow.Goals as goal

pub returns-clause-local_complement : goal.returns-clause-local_complement
returns-clause-local_complement c = local_complement_flow

pub returns-clause-delete : goal.returns-clause-delete
returns-clause-delete c = delete_flow

pub returns-clause-pivot : goal.returns-clause-pivot
returns-clause-pivot c = pivot_flow

pub returns-clause-split_input : goal.returns-clause-split_input
returns-clause-split_input c = split_input_flow

pub returns-clause-split_output : goal.returns-clause-split_output
returns-clause-split_output c = split_output_flow

pub returns-clause-drop_lone : goal.returns-clause-drop_lone
returns-clause-drop_lone c = drop_lone_flow

pub returns-clause-fuse_into : goal.returns-clause-fuse_into
returns-clause-fuse_into c = fuse_into_flow

pub returns-clause-fuse_twin : goal.returns-clause-fuse_twin
returns-clause-fuse_twin c = fuse_twin_flow

pub returns-clause-step : goal.returns-clause-step
returns-clause-step c = step_flow
