-- The plain circuit stays, or what replaces pieces of it may be taken.
use Rattle.zx_optimise.specs.Internal.Candidates.{most_whole_root2}
use Rattle.zx_optimise.proofs.CandidateLemmas.{candidate-offered, offers-whole}
use Rattle.zx_optimise.proofs.optimiser.beside_shrunk.Goals as goal

pub returns-then-not-is_worth_shrinking-clause-offers : goal.returns-then-not-is_worth_shrinking-clause-offers
returns-then-not-is_worth_shrinking-clause-offers c = offers-whole c.args.read.now c.args.plain c.requires

pub cheaper-requires-clause-best : goal.cheaper-requires-clause-best
cheaper-requires-clause-best c = offers-whole c.args.read.now c.args.plain c.requires

pub cheaper-requires-clause-candidate : goal.cheaper-requires-clause-candidate
cheaper-requires-clause-candidate c =
    c.in_ok-shrunk.ensures c.args.read.now (candidate-offered most_whole_root2 c.args.read.now c.args.plain c.requires)
