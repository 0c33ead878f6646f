-- The laws, by their lemmas.
use Rattle.circuit_laws.proofs.Small.{bell_entries, bell_mark, bell_edge, bell_wires_left, bell_gates}
use Rattle.circuit_laws.proofs.examples.bell_pair_is_h_and_cx.Goals as goal

pub returns-clause-entries : goal.returns-clause-entries
returns-clause-entries c = bell_entries

pub returns-clause-mark : goal.returns-clause-mark
returns-clause-mark c = bell_mark

pub returns-clause-edge : goal.returns-clause-edge
returns-clause-edge c = bell_edge

pub returns-clause-wires : goal.returns-clause-wires
returns-clause-wires c = bell_wires_left

pub returns-clause-gates : goal.returns-clause-gates
returns-clause-gates c = bell_gates
