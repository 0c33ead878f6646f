-- The laws, by their lemmas.
use Rattle.growing_laws.proofs.Peeled.{spider_peel, phase_peel, edge_peel}
use Rattle.growing_laws.proofs.gates.placed_gates_are_peeled.Goals as goal

pub returns : goal.returns
returns c = record {
  spider = λ new g m. spider_peel new g m.well_formed m.fresh m.plain;
  phase = λ new g m. phase_peel new g m.well_formed m.fresh m.plain;
  edge = λ new g m. edge_peel new g m.well_formed m.fresh m.plain;
}
