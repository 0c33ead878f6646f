-- The row was added to those of the legs at the first outputs.
use Rattle.zx_extract.specs.Internal.Frontiers.{remainder_of}
use Rattle.zx_extract.specs.Internal.Steps.{IsLegShared}
use Rattle.zx_extract.proofs.frontier.Frontier.share_leg.Given as goal

abbrev pub invariant-loop-q : goal.invariant-loop-q
invariant-loop-q l = IsLegShared (remainder_of l.initial.self) l.v l.z l.q (remainder_of l.self)
