-- The laws, by their lemmas.
use Rattle.teleport_circuits.proofs.Moving.{skeleton_left}
use Rattle.teleport_circuits.proofs.WithPhases.{graph_there, map_there}
use Rattle.teleport_circuits.proofs.laws.other_phases_are_added.Goals as goal

pub returns-clause-graph : goal.returns-clause-graph
returns-clause-graph c = λ circuit phase formed low. graph_there circuit phase formed

pub returns-clause-map : goal.returns-clause-map
returns-clause-map c = λ circuit phase formed low. map_there circuit phase formed

pub returns-clause-skeleton : goal.returns-clause-skeleton
returns-clause-skeleton c = λ circuit phase. skeleton_left phase 0 circuit.gates
