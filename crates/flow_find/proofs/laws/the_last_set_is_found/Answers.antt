-- The laws, by their lemmas.
use Rattle.flow_find.proofs.Finding.{correctable, correctable_alone, found}
use Rattle.flow_find.proofs.laws.the_last_set_is_found.Goals as goal

pub returns-clause-some : goal.returns-clause-some
returns-clause-some c = correctable

pub returns-clause-alone : goal.returns-clause-alone
returns-clause-alone c = correctable_alone

pub returns-clause-found : goal.returns-clause-found
returns-clause-found c = found
