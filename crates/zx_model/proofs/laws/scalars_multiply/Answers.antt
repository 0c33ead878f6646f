use Rattle.zx_model.proofs.Scalars.{scaled_refl, scaled_trans, scaled_over, scaled_proportional}
use Rattle.zx_model.proofs.laws.scalars_multiply.Goals as goal

pub returns-clause-unit : goal.returns-clause-unit
returns-clause-unit c = scaled_refl

pub returns-clause-products : goal.returns-clause-products
returns-clause-products c = scaled_trans

pub returns-clause-quotients : goal.returns-clause-quotients
returns-clause-quotients c = scaled_over

pub returns-clause-proportional : goal.returns-clause-proportional
returns-clause-proportional c = scaled_proportional
