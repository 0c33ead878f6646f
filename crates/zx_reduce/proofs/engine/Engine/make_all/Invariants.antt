-- Steps were tried.
use Rattle.zx_reduce.specs.Internal.Progress.{Tries}
use Rattle.zx_reduce.proofs.engine.Engine.make_all.Given as goal

abbrev pub invariant-loop-self : goal.invariant-loop-self
invariant-loop-self l = record { tries : Tries l.fn.self.progress l.self.progress }

abbrev pub decreases-loop-self : goal.decreases-loop-self
decreases-loop-self l = l.self.looks
