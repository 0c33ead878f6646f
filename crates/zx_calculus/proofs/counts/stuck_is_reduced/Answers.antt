-- An even phase that were left would be the place of a move.
use Rattle.zx_calculus.proofs.ReducedLemmas.{stuck_reduced, reduced_stuck}
use Rattle.zx_calculus.proofs.counts.stuck_is_reduced.Goals as goal

pub returns-clause-reduced : goal.returns-clause-reduced
returns-clause-reduced c = stuck_reduced

pub returns-clause-stuck : goal.returns-clause-stuck
returns-clause-stuck c = reduced_stuck
