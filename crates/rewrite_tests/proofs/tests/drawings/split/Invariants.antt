-- The flow so far is one of the graph so far.
use Rattle.gflow_laws.specs.Flow.{IsFlow}
use Rattle.rewrite_tests.proofs.tests.drawings.split.Given as goal

abbrev pub invariant-loop-step : goal.invariant-loop-step
invariant-loop-step l = IsFlow l.graph.graph l.flow.flow
