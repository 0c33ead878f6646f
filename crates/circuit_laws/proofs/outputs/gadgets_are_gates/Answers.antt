-- The laws, by their lemmas.
use Rattle.circuit_laws.proofs.Gadgets.{gadget_peels, linked_gadget_peels}
use Rattle.circuit_laws.proofs.outputs.gadgets_are_gates.Goals as goal

pub returns-clause-alone : goal.returns-clause-alone
returns-clause-alone c = gadget_peels

pub returns-clause-linked : goal.returns-clause-linked
returns-clause-linked c = linked_gadget_peels
