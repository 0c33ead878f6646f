-- The laws, by their lemmas.
use Rattle.growing_laws.proofs.Peeled.{placed_formed, placed_plain, placed_odd, placed_peels, placed_inputs, placed_outputs, placed_length, below_bound}
use Rattle.growing_laws.proofs.gates.placed_gates_keep_form.Goals as goal

pub returns : goal.returns
returns c = record {
  well_formed = λ new g m. placed_formed new g m.well_formed m.fresh m.plain;
  plain = λ new g m. placed_plain new g m.well_formed m.fresh m.plain;
  odd = λ new g m. placed_odd new g m.well_formed m.fresh m.plain;
  map = λ new g m. placed_peels new g m.well_formed m.fresh m.plain;
  inputs = placed_inputs;
  outputs = placed_outputs;
  vertices = placed_length;
  below = below_bound;
}
