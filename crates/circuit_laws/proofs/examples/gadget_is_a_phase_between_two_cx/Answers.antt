-- The laws, by their lemmas.
use Rattle.circuit_laws.proofs.Small.{gadget_entries, gadget_of_two}
use Rattle.circuit_laws.proofs.examples.gadget_is_a_phase_between_two_cx.Goals as goal

pub returns-clause-entries : goal.returns-clause-entries
returns-clause-entries c = gadget_entries

pub returns-clause-gadget : goal.returns-clause-gadget
returns-clause-gadget c = gadget_of_two
