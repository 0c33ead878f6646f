-- The flow so far is one of the graph so far.
use Rattle.gflow_laws.specs.Flow.{IsFlow}
use Rattle.rewrite_tests.proofs.tests.rewrites.draw_and_follow.Given as goal

abbrev pub invariant-loop-step : goal.invariant-loop-step
invariant-loop-step _ l = IsFlow l.graph.graph l.flow.flow
