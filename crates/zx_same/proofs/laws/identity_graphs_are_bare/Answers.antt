-- The ends are taken off the sum, and what is left is compared at labels of one vertex and of two.
use Rattle.zx_same.proofs.BareGraphs.{bare_identity}
use Rattle.zx_same.proofs.Deciding.{identity_is_bare}
use Rattle.zx_same.proofs.laws.identity_graphs_are_bare.Goals as goal

pub returns : goal.returns
returns c = λ g valid only as_many. (λ bare. bare_identity g valid bare, λ same. identity_is_bare g valid only as_many same)
