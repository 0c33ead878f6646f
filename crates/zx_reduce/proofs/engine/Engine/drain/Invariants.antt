-- Steps were tried, and no look came.
use Rattle.std.proofs.Common.{◌≤◌}
use Rattle.zx_reduce.specs.Internal.Progress.{Tries}
use Rattle.zx_reduce.proofs.engine.Engine.drain.Given as goal

abbrev pub invariant-loop : goal.invariant-loop
invariant-loop l = record {
  tries : Tries l.fn.self.progress l.self.progress;
  looks : l.self.looks ≤ l.fn.self.looks;
}
