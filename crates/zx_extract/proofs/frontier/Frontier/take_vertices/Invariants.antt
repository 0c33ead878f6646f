-- Some vertices were taken off, by which the sum was doubled so often; the order is the measure.
use Rattle.std.proofs.Common.{length}
use Rattle.zx_extract.specs.Internal.Frontiers.{remainder_of}
use Rattle.zx_extract.specs.Internal.Leading.{AreTakenOff}
use Rattle.zx_extract.proofs.frontier.Frontier.take_vertices.Given as goal

abbrev pub invariant-loop-v : goal.invariant-loop-v
invariant-loop-v l = AreTakenOff l.doublings (remainder_of l.initial.self) (remainder_of l.self)

abbrev pub decreases-loop-v : goal.decreases-loop-v
decreases-loop-v l = length l.self.flow.flow
