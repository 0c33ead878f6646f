-- The law, by its lemma.
use Rattle.growing_laws.proofs.DemandGrown.{placed_demand}
use Rattle.growing_laws.proofs.gates.gates_raise_the_demand.Goals as goal

pub returns : goal.returns
returns c = placed_demand
