-- The laws, by their lemmas.
use Rattle.std.proofs.Common.{ap}
use Rattle.zx_calculus.specs.Graph.{is_XY}
use Rattle.circuit_laws.proofs.Keeping.{edge_formed_back, mark_formed_back, spider_formed_back, row_formed_back, exchange_formed_back, gadget_formed_back, linked_gadget_formed_back}
use Rattle.circuit_laws.proofs.kept.peeled_gates_keep_form.Goals as goal

pub returns-clause-edge : goal.returns-clause-edge
returns-clause-edge c = edge_formed_back

pub returns-clause-mark : goal.returns-clause-mark
returns-clause-mark c = mark_formed_back

pub returns-clause-spider : goal.returns-clause-spider
returns-clause-spider c = λ g q h w step no_input there plane no_output. spider_formed_back g q h w step no_input there (ap is_XY plane) no_output

pub returns-clause-row : goal.returns-clause-row
returns-clause-row c = row_formed_back

pub returns-clause-exchange : goal.returns-clause-exchange
returns-clause-exchange c = exchange_formed_back

pub returns-clause-gadget : goal.returns-clause-gadget
returns-clause-gadget c = gadget_formed_back

pub returns-clause-linked_gadget : goal.returns-clause-linked_gadget
returns-clause-linked_gadget c = linked_gadget_formed_back
