-- The laws, by their lemmas.
use Rattle.circuit_laws.proofs.Settling.{phase_peels, edge_peels, mark_peels}
use Rattle.circuit_laws.proofs.outputs.settled_outputs_are_gates.Goals as goal

pub returns-clause-phase : goal.returns-clause-phase
returns-clause-phase c = phase_peels

pub returns-clause-edge : goal.returns-clause-edge
returns-clause-edge c = edge_peels

pub returns-clause-mark : goal.returns-clause-mark
returns-clause-mark c = mark_peels
