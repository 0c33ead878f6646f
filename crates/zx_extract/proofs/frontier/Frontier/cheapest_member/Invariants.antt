-- The best so far is one.
use Rattle.zx_extract.specs.Internal.Frontiers.{remainder_of}
use Rattle.zx_extract.specs.Internal.Steps.{IsPicked}
use Rattle.zx_extract.proofs.frontier.Frontier.cheapest_member.Given as goal

abbrev pub invariant-loop-q : goal.invariant-loop-q
invariant-loop-q l = IsPicked (remainder_of l.self) l.best.qubit
