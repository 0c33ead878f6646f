-- The laws, by their lemmas.
use Rattle.circuit_laws.proofs.Composing.{peels_nothing, peels_at_then, peels_at_end, peels_at_other}
use Rattle.circuit_laws.proofs.composition.costs_multiply.Goals as goal

pub returns-clause-nothing : goal.returns-clause-nothing
returns-clause-nothing c = peels_nothing

pub returns-clause-then : goal.returns-clause-then
returns-clause-then c = peels_at_then

pub returns-clause-end : goal.returns-clause-end
returns-clause-end c = peels_at_end

pub returns-clause-other : goal.returns-clause-other
returns-clause-other c = peels_at_other
