-- The steps so far are done, and the steps that are left can be done.
use Rattle.std.proofs.Common.{◌≡◌, ◌+◌, take, drop, map}
use Rattle.graph_rewrites.specs.Steps.{step_named}
use Rattle.zx_moves.specs.Moving.{steps_of}
use Rattle.zx_moves.specs.Internal.Planning.{AreAllowed}
use Rattle.zx_reduce.specs.Internal.Progress.{AreDone}
use Rattle.zx_reduce.proofs.progress.Progress.make.Given as goal

abbrev pub invariant-loop-step : goal.invariant-loop-step
invariant-loop-step l = record {
  planned : map step_named l.step-items ≡ steps_of l.fn.self.ordered.graph l.fn.m;
  done : AreDone l.fn.self (take l.step-index l.step-items) l.self;
  left : AreAllowed l.self.ordered.graph (map step_named (drop l.step-index l.step-items));
  count : l.self.steps ≡ l.fn.self.steps + l.step-index;
}
