-- Steps were tried.
use Rattle.std.proofs.Common.{◌≡◌}
use Rattle.zx_reduce.specs.Internal.Progress.{Tries}
use Rattle.zx_reduce.proofs.engine.Engine.try_move.Given as goal

abbrev pub invariant-loop-step : goal.invariant-loop-step
invariant-loop-step l = record {
  tries : Tries l.fn.self.progress l.self.progress;
  looks : l.self.looks ≡ l.fn.self.looks;
}
