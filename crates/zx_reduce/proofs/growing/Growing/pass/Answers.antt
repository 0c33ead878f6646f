-- The step and what may follow it.
use Rattle.std.proofs.lemmas.Result.{on_ok_weaker}
use Rattle.zx_reduce.proofs.Doing.{tries_then}
use Rattle.zx_reduce.proofs.growing.Growing.pass.Goals as goal

pub returns : goal.returns
returns c =
    on_ok_weaker c.look_at.result (tries_then c.args.self.now.engine.progress c.try_two.new.self.progress c.look_at.new.self.progress c.in_ok-try_two.ensures.tries) c.look_at.ensures.tries
