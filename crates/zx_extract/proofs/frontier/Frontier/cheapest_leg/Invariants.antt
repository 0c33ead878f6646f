-- The best so far is one.
use Rattle.zx_extract.specs.Internal.Steps.{IsSpareLeg}
use Rattle.zx_extract.proofs.frontier.Frontier.cheapest_leg.Given as goal

abbrev pub invariant-loop-q : goal.invariant-loop-q
invariant-loop-q l = IsSpareLeg l.self.graph.graph l.v l.best.qubit
