-- The laws, by their lemmas.
use Rattle.circuit_laws.proofs.Small.{crossing_entries, crossing_exchanged}
use Rattle.circuit_laws.proofs.examples.crossing_wires_are_three_cx.Goals as goal

pub returns-clause-entries : goal.returns-clause-entries
returns-clause-entries c = crossing_entries

pub returns-clause-exchange : goal.returns-clause-exchange
returns-clause-exchange c = crossing_exchanged
