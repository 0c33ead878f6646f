-- By what is left of a phase at quarter turns.
use Rattle.zx_model.proofs.Odd.{is_odd-sum_quarter, is_odd-opposite, is_odd-sum_even, one_if-odd_sum}
use Rattle.zx_model.proofs.laws.which_phases_are_odd.Goals as goal

pub returns : goal.returns
returns c = record {
  quarter = is_odd-sum_quarter;
  opposite = is_odd-opposite;
  even_added = is_odd-sum_even;
  counted = one_if-odd_sum;
}
