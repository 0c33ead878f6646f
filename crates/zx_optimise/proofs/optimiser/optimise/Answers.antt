-- The plain one has a smaller scalar than the best of all may have.
use Rattle.std.proofs.lemmas.Result.{IfOk-weaker}
use Rattle.zx_optimise.proofs.CandidateLemmas.{offers-whole}
use Rattle.zx_optimise.proofs.optimiser.optimise.Goals as goal

pub returns-else-best-clause-optimises : goal.returns-else-best-clause-optimises
returns-else-best-clause-optimises c =
    IfOk-weaker c.plain.result _ _ (λ made offers. offers-whole c.args.read.now made offers) c.plain.ensures.offers
