-- The laws, by their lemmas.
use Rattle.circuit_laws.proofs.Composing.{peels_then, peels_end, peels_other}
use Rattle.circuit_laws.proofs.composition.peeling_composes.Goals as goal

pub returns-clause-then : goal.returns-clause-then
returns-clause-then c = peels_then

pub returns-clause-end : goal.returns-clause-end
returns-clause-end c = peels_end

pub returns-clause-other : goal.returns-clause-other
returns-clause-other c = peels_other
