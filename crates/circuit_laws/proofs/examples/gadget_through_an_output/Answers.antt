-- The laws, by their lemmas.
use Rattle.circuit_laws.proofs.Small.{gadget_linked, advance_over, linked_gates}
use Rattle.circuit_laws.proofs.examples.gadget_through_an_output.Goals as goal

pub returns-clause-gates : goal.returns-clause-gates
returns-clause-gates c = linked_gates

pub returns-clause-gadget : goal.returns-clause-gadget
returns-clause-gadget c = gadget_linked

pub returns-clause-advance : goal.returns-clause-advance
returns-clause-advance c = advance_over
