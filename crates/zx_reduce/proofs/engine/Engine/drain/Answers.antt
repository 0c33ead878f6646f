-- What is tried at a vertex follows what was tried before it.
use Rattle.std.proofs.Common.{arith}
use Rattle.zx_reduce.proofs.Doing.{tries_then}
use Rattle.zx_reduce.proofs.engine.Engine.drain.Goals as goal
use Rattle.zx_reduce.proofs.engine.Engine.drain.Goals.{in-Some-take+in_ok-look_at, in_default-take}

pub loop-preserved : goal.loop-preserved
loop-preserved c =
    let fewer = c.saturating_sub-self.ensures in
    let before = c.loop.invariant.looks in
    elim c.match-take.branch [
      | in-Some-take+in_ok-look_at w ↦ rw w.self-is (record {
        tries = tries_then c.args.self.now.progress c.loop.self.progress _ c.loop.invariant.tries w.in_ok-look_at.ensures.tries;
        looks = let same = w.in_ok-look_at.ensures.looks in omega (arith, fewer, before, same);
      })
      | in_default-take w ↦ rw w.self-is (record { tries = c.loop.invariant.tries; looks = omega (arith, fewer, before) })
    ]
