-- The laws, by their lemmas.
use Rattle.growing_laws.proofs.FlowsGrown.{spider_ranked, phase_ranked, edge_ranked}
use Rattle.growing_laws.proofs.flows.gates_keep_a_flow_by_rank.Goals as goal

pub returns : goal.returns
returns c = record {
  spider = λ new g m. spider_ranked new g m.well_formed m.fresh m.plain;
  phase = λ new g m. phase_ranked new g m.well_formed m.fresh m.plain;
  edge = λ new g m. edge_ranked new g m.well_formed m.fresh m.plain;
}
