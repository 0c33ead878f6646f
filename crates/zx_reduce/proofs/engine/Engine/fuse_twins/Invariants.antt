-- Steps were tried.
use Rattle.std.proofs.Common.{◌≡◌}
use Rattle.zx_reduce.specs.Internal.Progress.{Tries}
use Rattle.zx_reduce.proofs.engine.Engine.fuse_twins.Given as goal

abbrev pub invariant-loop-next : goal.invariant-loop-next
invariant-loop-next l = record {
  tries : Tries l.fn.self.progress l.self.progress;
  looks : l.self.looks ≡ l.fn.self.looks;
}
