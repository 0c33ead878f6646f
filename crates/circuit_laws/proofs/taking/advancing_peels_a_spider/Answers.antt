-- The laws, by their lemmas.
use Rattle.circuit_laws.proofs.Taken.{advanced_gates, advanced_odd, advanced, advanced_formed}
use Rattle.circuit_laws.proofs.taking.advancing_peels_a_spider.Goals as goal

pub returns-clause-gates : goal.returns-clause-gates
returns-clause-gates c = advanced_gates

pub returns-clause-odd : goal.returns-clause-odd
returns-clause-odd c = advanced_odd

pub returns-clause-form : goal.returns-clause-form
returns-clause-form c = advanced_formed

pub returns-clause-peel : goal.returns-clause-peel
returns-clause-peel c = advanced
