use Rattle.std.proofs.Common.{le_of_lt}
use Rattle.zx_model.proofs.Powers.{root_power-half_turn, root_power-turn, root_power-sum_of_phases, root_power-opposite_phase, root_power-nonzero}
use Rattle.zx_model.proofs.laws.root_is_a_primitive_sixteenth_root.Goals as goal

pub returns : goal.returns
returns c = record {
  half_turn_is_minus_one = root_power-half_turn;
  whole_turn_is_one = root_power-turn;
  phases_add = root_power-sum_of_phases;
  opposite_phases_cancel = λ k below. root_power-opposite_phase k (le_of_lt below);
  powers_are_nonzero = root_power-nonzero;
}
