-- The laws, by their lemmas.
use Rattle.growing_laws.proofs.GrownGraphs.{fresh_gate, fresh_growing, ids_more, ids_of_circuit}
use Rattle.growing_laws.proofs.growth.graphs_grow_with_fresh_ids.Goals as goal

pub returns-clause-gate : goal.returns-clause-gate
returns-clause-gate c = fresh_gate

pub returns-clause-growing : goal.returns-clause-growing
returns-clause-growing c = fresh_growing

pub returns-clause-next : goal.returns-clause-next
returns-clause-next c = ids_more

pub returns-clause-spiders : goal.returns-clause-spiders
returns-clause-spiders c = ids_of_circuit
