-- The laws, by their lemmas.
use Rattle.zx_identities.proofs.PuttingIn.{put_in, put_in_scaled}
use Rattle.zx_identities.proofs.insertion_laws.identities_are_put_in.Goals as goal

pub returns-clause-identity : goal.returns-clause-identity
returns-clause-identity c = put_in

pub returns-clause-scaled : goal.returns-clause-scaled
returns-clause-scaled c = put_in_scaled
