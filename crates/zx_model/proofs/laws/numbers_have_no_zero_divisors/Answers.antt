use Rattle.zx_model.proofs.Domain.{mul-nonzero, mul_left_cancel}
use Rattle.zx_model.proofs.laws.numbers_have_no_zero_divisors.Goals as goal

pub returns-clause-product_is_nonzero : goal.returns-clause-product_is_nonzero
returns-clause-product_is_nonzero c = mul-nonzero

pub returns-clause-factor_cancels : goal.returns-clause-factor_cancels
returns-clause-factor_cancels c = mul_left_cancel
