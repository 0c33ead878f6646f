-- What is taken in the place of the best so far is no dearer than what that isn't.
use Rattle.zx_optimise.proofs.CandidateLemmas.{best_of_all, taken-trans}
use Rattle.zx_optimise.proofs.optimiser.best_of.Goals as goal

pub returns-clause-best : goal.returns-clause-best
returns-clause-best c =
    best_of_all c.args.read.now c.in_ok-plain.plain c.in_ok-best-2.best c.beside_teleported.result c.in_ok-plain.ensures.plain
    (taken-trans c.in_ok-plain.plain c.in_ok-best.best c.in_ok-best-2.best c.in_ok-best.ensures.than_plain c.in_ok-best-2.ensures.than_best)
    c.in_ok-best-2.ensures.than_read c.beside_teleported.ensures.than_best c.beside_teleported.ensures.than_teleported
