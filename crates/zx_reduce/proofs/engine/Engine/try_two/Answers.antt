-- Both steps, where the first is done.
use Rattle.zx_reduce.proofs.Doing.{tries_then}
use Rattle.zx_reduce.proofs.Ranking.{on_any}
use Rattle.zx_reduce.proofs.engine.Engine.try_two.Goals as goal
use Rattle.zx_reduce.proofs.engine.Engine.try_two.Goals.{in-Some+in_ok-try_step-2, in_default}

pub returns-clause-tries : goal.returns-clause-tries
returns-clause-tries c =
    let first = c.in_ok-try_step.ensures in
    on_any c.touch_near.result (elim c.match-next.branch [
      | in-Some+in_ok-try_step-2 w ↦ rw w.self-is (tries_then c.args.self.now.progress c.try_step.new.self _ first w.in_ok-try_step-2.ensures)
      | in_default w ↦ rw w.self-is first
    ])
