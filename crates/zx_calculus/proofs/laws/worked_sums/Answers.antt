-- Tables by computation, and sums of small graphs by their lemmas.
use Rattle.std.proofs.Common.{refl}
use Rattle.zx_model.specs.Number.{root_power, add, neg, mul}
use Rattle.zx_model.specs.Cyclotomic.{add_cyclotomic, neg_cyclotomic, mul_cyclotomic}
use Rattle.zx_calculus.proofs.WorkedSums.{one_minus_i-turned, hadamard_sum, marked_sum, controlled_z_sum, crossing_sum}
use Rattle.zx_calculus.proofs.laws.worked_sums.Goals as goal

pub returns : goal.returns
unfolding add neg mul root_power add_cyclotomic neg_cyclotomic mul_cyclotomic
returns c = record {
  XY_0 = refl;
  XY_1 = refl;
  XZ_0 = refl;
  XZ_1 = refl;
  YZ_0 = refl;
  YZ_1 = refl;
  two = refl;
  one_plus_i = refl;
  one_minus_i = one_minus_i-turned;
  hadamard = hadamard_sum;
  marked = marked_sum;
  controlled_z = controlled_z_sum;
  crossing = crossing_sum;
}
