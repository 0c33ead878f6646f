use Rattle.zx_model.proofs.Ring.{mul-sign}
use Rattle.zx_model.proofs.laws.bits_form_a_field.Goals as goal

pub returns-clause-signs_multiply : goal.returns-clause-signs_multiply
returns-clause-signs_multiply c = mul-sign
