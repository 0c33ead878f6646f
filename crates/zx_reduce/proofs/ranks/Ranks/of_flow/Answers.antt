-- The ranks rise along the order of the flow.
use Rattle.std.proofs.Common.{subst}
use Rattle.std.proofs.lemmas.Result.{IfOk-weaker}
use Rattle.zx_reduce.specs.Internal.Guiding.{AreRanked}
use Rattle.zx_reduce.proofs.Ranking.{flow_ranked}
use Rattle.zx_reduce.proofs.ranks.Ranks.of_flow.Goals as goal

pub returns : goal.returns
returns c =
    IfOk-weaker c.of_order.result _ _
    (λ made ranked g flow. flow_ranked g c.args.f.now.flow made flow (subst (λ vs. AreRanked vs made) c.order.ensures.value ranked))
    c.of_order.ensures
