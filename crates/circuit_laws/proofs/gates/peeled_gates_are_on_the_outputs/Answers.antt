-- The laws, by their lemmas.
use Rattle.circuit_laws.proofs.GateLists.{cleared_on, edge_on, mark_on, spider_on, row_on, exchange_on, gadget_on_outputs, linked_gadget_on_outputs, hadamards_on}
use Rattle.circuit_laws.proofs.gates.peeled_gates_are_on_the_outputs.Goals as goal

pub returns-clause-phase : goal.returns-clause-phase
returns-clause-phase c = cleared_on

pub returns-clause-edge : goal.returns-clause-edge
returns-clause-edge c = edge_on

pub returns-clause-mark : goal.returns-clause-mark
returns-clause-mark c = mark_on

pub returns-clause-spider : goal.returns-clause-spider
returns-clause-spider c = spider_on

pub returns-clause-row : goal.returns-clause-row
returns-clause-row c = row_on

pub returns-clause-exchange : goal.returns-clause-exchange
returns-clause-exchange c = exchange_on

pub returns-clause-gadget : goal.returns-clause-gadget
returns-clause-gadget c = gadget_on_outputs

pub returns-clause-linked_gadget : goal.returns-clause-linked_gadget
returns-clause-linked_gadget c = linked_gadget_on_outputs

pub returns-clause-hadamards : goal.returns-clause-hadamards
returns-clause-hadamards c = hadamards_on
