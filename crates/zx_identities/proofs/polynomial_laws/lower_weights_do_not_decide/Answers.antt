-- The values, by computing them.
use Rattle.std.proofs.Common.{refl}
use Rattle.zx_identities.proofs.WorkedPolynomials.{two_bits_set, three_bits_set}
use Rattle.zx_identities.proofs.polynomial_laws.lower_weights_do_not_decide.Goals as goal

pub returns-clause-lower_eighths : goal.returns-clause-lower_eighths
returns-clause-lower_eighths c = two_bits_set

pub returns-clause-full_eighths : goal.returns-clause-full_eighths
returns-clause-full_eighths c = refl

pub returns-clause-lower_any : goal.returns-clause-lower_any
returns-clause-lower_any c = three_bits_set

pub returns-clause-full_any : goal.returns-clause-full_any
returns-clause-full_any c = refl
