-- Of the three facts that are known of a rank, one after the other.
use Rattle.std.proofs.Common.{OnOk, sym, subst}
use Rattle.graph_rewrites.specs.declared.step.Step.{Step}
use Rattle.graph_rewrites.specs.Steps.{step_named}
use Rattle.zx_reduce.specs.Internal.Ranked.{AreRanksAfter}
use Rattle.zx_reduce.proofs.Ranking.{on_all}
use Rattle.zx_reduce.proofs.ranks.Ranks.follow.Goals as goal

pub returns-in-SplitInput : goal.returns-in-SplitInput
returns-in-SplitInput c =
    subst (λ (s : Step). OnOk c.add_first.result (AreRanksAfter (step_named s) c.args.added c.args.self.now c.add_first.new.self)) (sym c.in-SplitInput.is)
    (on_all c.add_first.result c.add_first.ensures.ranks c.add_first.ensures.low c.add_first.ensures.high (λ ranks low high. (ranks, low, high)))

pub returns-in-SplitOutput : goal.returns-in-SplitOutput
returns-in-SplitOutput c =
    subst (λ (s : Step). OnOk c.add_last.result (AreRanksAfter (step_named s) c.args.added c.args.self.now c.add_last.new.self)) (sym c.in-SplitOutput.is)
    (on_all c.add_last.result c.add_last.ensures.ranks c.add_last.ensures.low c.add_last.ensures.high (λ ranks low high. (ranks, low, high)))
