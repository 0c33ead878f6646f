-- The laws, by their lemmas.
use Rattle.growing_laws.proofs.RunsGrown.{grows_on, grown_grows, grown_peels, grown_odd}
use Rattle.growing_laws.proofs.gates.gates_behind_a_graph.Goals as goal

pub returns-clause-next : goal.returns-clause-next
returns-clause-next c = grows_on

pub returns-clause-growing : goal.returns-clause-growing
returns-clause-growing c = grown_grows

pub returns-clause-map : goal.returns-clause-map
returns-clause-map c = grown_peels

pub returns-clause-odd : goal.returns-clause-odd
returns-clause-odd c = grown_odd
