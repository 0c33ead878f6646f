-- The laws, by their lemmas.
use Rattle.circuit_laws.proofs.Taken.{cleared_gates, cleared_odd, phase_cleared, phase_cleared_zero, phase_cleared_formed}
use Rattle.circuit_laws.proofs.taking.clearing_a_phase_peels_it.Goals as goal

pub returns-clause-gates : goal.returns-clause-gates
returns-clause-gates c = cleared_gates

pub returns-clause-odd : goal.returns-clause-odd
returns-clause-odd c = cleared_odd

pub returns-clause-form : goal.returns-clause-form
returns-clause-form c = phase_cleared_formed

pub returns-clause-peel : goal.returns-clause-peel
returns-clause-peel c = phase_cleared

pub returns-clause-none_left : goal.returns-clause-none_left
returns-clause-none_left c = phase_cleared_zero
