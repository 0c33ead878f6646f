-- The law, by its lemmas.
use Rattle.zx_identities.proofs.LowWeights.{eighths_decided, any_decided}
use Rattle.zx_identities.proofs.polynomial_laws.low_weights_decide.Goals as goal

pub returns-clause-eighths : goal.returns-clause-eighths
returns-clause-eighths c = eighths_decided

pub returns-clause-any : goal.returns-clause-any
returns-clause-any c = any_decided
