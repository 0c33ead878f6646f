-- The laws, by their lemmas.
use Rattle.circuit_laws.proofs.GateLists.{gadget_few, linked_gadget_few, hadamards_few}
use Rattle.circuit_laws.proofs.gates.peeled_gates_are_few.Goals as goal

pub returns-clause-gadget : goal.returns-clause-gadget
returns-clause-gadget c = gadget_few

pub returns-clause-linked_gadget : goal.returns-clause-linked_gadget
returns-clause-linked_gadget c = linked_gadget_few

pub returns-clause-hadamards : goal.returns-clause-hadamards
returns-clause-hadamards c = hadamards_few
