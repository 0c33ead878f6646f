-- The laws, by their lemmas.
use Rattle.circuit_laws.proofs.Small.{row_is_added, row_gate, not_reversed}
use Rattle.circuit_laws.proofs.examples.the_direction_of_an_added_row.Goals as goal

pub returns-clause-added : goal.returns-clause-added
returns-clause-added c = row_is_added

pub returns-clause-gate : goal.returns-clause-gate
returns-clause-gate c = row_gate

pub returns-clause-not_reversed : goal.returns-clause-not_reversed
returns-clause-not_reversed c = not_reversed
