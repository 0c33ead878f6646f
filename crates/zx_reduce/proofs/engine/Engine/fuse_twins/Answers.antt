-- A step that is tried follows those before it.
use Rattle.std.proofs.Common.{◌∙◌}
use Rattle.zx_reduce.proofs.Doing.{tries_then}
use Rattle.zx_reduce.proofs.engine.Engine.fuse_twins.Goals as goal
use Rattle.zx_reduce.proofs.engine.Engine.fuse_twins.Goals.{then-next-key+in_ok-try_two, else-next-key}

pub loop-next-preserved : goal.loop-next-preserved
loop-next-preserved c =
    elim c.if-next-key.branch [
      | then-next-key+in_ok-try_two w ↦ rw w.self-is (record {
        tries = tries_then c.args.self.now.progress c.loop-next.self.progress _ c.loop-next.invariant.tries w.in_ok-try_two.ensures.tries;
        looks = w.in_ok-try_two.ensures.looks ∙ c.loop-next.invariant.looks;
      })
      | else-next-key w ↦ rw w.self-is (record { tries = c.loop-next.invariant.tries; looks = c.loop-next.invariant.looks })
    ]
