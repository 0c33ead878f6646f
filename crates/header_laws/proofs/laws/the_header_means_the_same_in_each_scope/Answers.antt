-- By the scopes.
use Rattle.header_laws.proofs.Scopes.{same_in_each_scope}
use Rattle.header_laws.proofs.laws.the_header_means_the_same_in_each_scope.Goals as goal

pub returns : goal.returns
returns c = same_in_each_scope
