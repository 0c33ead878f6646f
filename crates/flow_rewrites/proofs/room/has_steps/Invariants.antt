-- The steps for the vertices so far are taken off.
use Rattle.std.proofs.Common.{◌≡◌, ◌+◌, ◌++◌}
use Rattle.zx_calculus.specs.Graph.{ids}
use Rattle.flow_rewrites.proofs.StepsNeeded.{sum, needed_at}
use Rattle.flow_rewrites.proofs.room.has_steps.Given as goal

abbrev pub invariant-loop-v : goal.invariant-loop-v
invariant-loop-v l = record {
  all : l.yielded ++ l.v-iterator ≡ ids l.g.graph.vertices;
  left : l.left + sum (needed_at l.g.graph) l.yielded ≡ l.steps;
}
