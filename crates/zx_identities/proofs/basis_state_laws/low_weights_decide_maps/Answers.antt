-- The laws, by their lemmas.
use Rattle.zx_identities.proofs.Agreeing.{eighths_agree, any_agree}
use Rattle.zx_identities.proofs.basis_state_laws.low_weights_decide_maps.Goals as goal

pub returns-clause-eighths : goal.returns-clause-eighths
returns-clause-eighths c = eighths_agree

pub returns-clause-any : goal.returns-clause-any
returns-clause-any c = any_agree
