-- The vertices so far are ranked.
use Rattle.std.proofs.Common.{take}
use Rattle.zx_reduce.specs.Internal.Guiding.{AreRanked}
use Rattle.zx_reduce.proofs.ranks.Ranks.of_order.Given as goal

abbrev pub invariant-loop-v : goal.invariant-loop-v
invariant-loop-v l = AreRanked (take l.v-index l.order) l.made
