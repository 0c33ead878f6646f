-- Each wire is summed out.
use Rattle.zx_same.proofs.BareGraphs.{bare_identity}
use Rattle.zx_same.proofs.laws.bare_graphs_are_the_identity.Goals as goal

pub returns : goal.returns
returns c = bare_identity
