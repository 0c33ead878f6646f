-- The order is one of a flow after the step.
use Rattle.std.proofs.Common.{◌∙◌}
use Rattle.graph_rewrites.specs.Steps.{step_named}
use Rattle.zx_reduce.proofs.Ranking.{flow_after}
use Rattle.zx_reduce.proofs.ordered.rewrite.Goals as goal

pub returns-clause-flow : goal.returns-clause-flow
returns-clause-flow c has =
    flow_after c.args.g.now.graph c.do_in.new.g.graph c.args.order.now c.follow.new.self c.do_in.ensures.was_valid
    has (step_named c.args.step.now) c.new-added.result (c.new-added.ensures ∙ c.next_id.ensures.value)
    c.in_ok-scalar.ensures.step c.in_ok-follow.ensures
