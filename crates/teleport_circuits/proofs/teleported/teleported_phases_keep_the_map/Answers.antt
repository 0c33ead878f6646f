-- The laws, by their lemmas.
use Rattle.teleport_circuits.specs.Teleporting.{new_phase, spots_of}
use Rattle.teleport_circuits.proofs.Moving.{skeleton_left}
use Rattle.teleport_circuits.proofs.Teleporting.{teleported_map, same_run}
use Rattle.teleport_circuits.proofs.Quotients.{teleported_quotient}
use Rattle.teleport_circuits.proofs.OddPhases.{teleported_odd, teleported_fewer}
use Rattle.teleport_circuits.proofs.teleported.teleported_phases_keep_the_map.Goals as goal

pub returns-clause-skeleton : goal.returns-clause-skeleton
returns-clause-skeleton c = λ circuit steps h run. skeleton_left (new_phase circuit (spots_of circuit steps h run)) 0 circuit.gates

pub returns-clause-map : goal.returns-clause-map
returns-clause-map c = teleported_map

pub returns-clause-same_end : goal.returns-clause-same_end
returns-clause-same_end c = λ circuit steps h run formed. same_run circuit formed steps h run

pub returns-clause-scalar : goal.returns-clause-scalar
returns-clause-scalar c = teleported_quotient

pub returns-clause-odd : goal.returns-clause-odd
returns-clause-odd c = teleported_odd

pub returns-clause-fewer : goal.returns-clause-fewer
returns-clause-fewer c = teleported_fewer
