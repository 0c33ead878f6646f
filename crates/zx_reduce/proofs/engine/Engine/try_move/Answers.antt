-- The graph is well-formed, and a step that is tried follows those before it.
use Rattle.std.proofs.Common.{sym, subst}
use Rattle.zx_calculus.specs.Graph.{WellFormed}
use Rattle.zx_reduce.proofs.Doing.{tries_then}
use Rattle.zx_reduce.proofs.Ranking.{on_any}
use Rattle.zx_reduce.proofs.engine.Engine.try_move.Goals as goal
use Rattle.zx_reduce.proofs.engine.Engine.try_move.Goals.{else-loop-step-test, then-loop-step-test+in_ok-note_near+in_ok-try_step+then-not-branch}

pub add_steps-requires-clause-valid : goal.add_steps-requires-clause-valid
add_steps-requires-clause-valid c = subst WellFormed (sym c.graph.ensures) c.requires.valid

pub loop-step-preserved : goal.loop-step-preserved
loop-step-preserved c = record {
  tries = tries_then c.args.self.now.progress c.loop-step.self.progress c.try_step.new.self c.loop-step.invariant.tries c.in_ok-try_step.ensures;
  looks = c.loop-step.invariant.looks;
}

pub returns-clause-tries : goal.returns-clause-tries
returns-clause-tries c =
    on_any c.touch_near.result (elim c.loop-step-test.branch [
      | else-loop-step-test w ↦ rw w.self-is c.loop-step.invariant.tries
      | then-loop-step-test+in_ok-note_near+in_ok-try_step+then-not-branch w ↦
          rw w.self-is (tries_then c.args.self.now.progress c.loop-step.self.progress _ c.loop-step.invariant.tries w.in_ok-try_step.ensures)
    ])
