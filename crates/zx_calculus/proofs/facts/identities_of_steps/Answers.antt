use Rattle.zx_calculus.proofs.StepIdentities.{half_turned-half_turned, pivoted-pivoted, quarter_turned-quarter_turned}
use Rattle.zx_calculus.proofs.Gadgets.{fuse_twin_allowed_comm}
use Rattle.zx_calculus.proofs.Steps.{fuse_twin_sum_comm}
use Rattle.zx_calculus.proofs.Pivots.{pivot_allowed_comm, pivot_comm, pivot_as_complements}
use Rattle.zx_calculus.proofs.Complements.{complement_twice, complement_four}
use Rattle.zx_calculus.proofs.facts.identities_of_steps.Goals as goal

pub returns : goal.returns
returns c = record {
  two_half_turns = half_turned-half_turned;
  two_quarter_turns = quarter_turned-quarter_turned;
  two_pivots_of_a_kind = pivoted-pivoted;
  twins_allowed_either_way = fuse_twin_allowed_comm;
  twins_fused_either_way = fuse_twin_sum_comm;
  pivot_allowed_either_way = pivot_allowed_comm;
  pivot_either_way = pivot_comm;
  two_complements = complement_twice;
  four_complements = complement_four;
  pivot_as_complements = pivot_as_complements;
}
