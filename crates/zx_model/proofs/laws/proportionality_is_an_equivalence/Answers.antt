use Rattle.zx_model.proofs.ProportionalLemmas.{proportional_refl, proportional_trans}
use Rattle.zx_model.proofs.laws.proportionality_is_an_equivalence.Goals as goal

pub returns-clause-reflexive : goal.returns-clause-reflexive
returns-clause-reflexive c = proportional_refl

pub returns-clause-transitive : goal.returns-clause-transitive
returns-clause-transitive c = proportional_trans
