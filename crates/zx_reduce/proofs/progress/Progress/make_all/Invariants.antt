-- Steps of moves were done, and there is room for those of the moves that are left.
use Rattle.std.proofs.Common.{◌≤◌, ◌+◌, ◌*◌, List}
use Rattle.zx_moves.specs.Moving.{most_moves}
use Rattle.graph_rewrites.specs.declared.step.Step.{Step}
use Rattle.zx_reduce.specs.Scaling.{most_steps}
use Rattle.zx_reduce.specs.Internal.Progress.{AreDone}
use Rattle.zx_reduce.proofs.progress.Progress.make_all.Given as goal

abbrev pub invariant-loop-found : goal.invariant-loop-found
invariant-loop-found l = record {
  steps : List Step;
  done : AreDone l.fn.self steps l.self;
  few : l.self.steps + 6 * most_moves l.self.ordered.graph ≤ most_steps;
}

abbrev pub decreases-loop-found : goal.decreases-loop-found
decreases-loop-found l = most_moves l.self.ordered.graph
