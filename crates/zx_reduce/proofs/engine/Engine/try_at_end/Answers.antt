-- One after the other.
use Rattle.std.proofs.lemmas.Result.{on_ok_weaker}
use Rattle.zx_reduce.proofs.Doing.{tries_then}
use Rattle.zx_reduce.proofs.engine.Engine.try_at_end.Goals as goal

pub returns-clause-tries : goal.returns-clause-tries
returns-clause-tries c =
    on_ok_weaker c.try_two.result
    (tries_then c.args.self.now.progress c.try_step-2.new.self c.try_two.new.self.progress
    (tries_then c.args.self.now.progress c.try_step.new.self c.try_step-2.new.self c.in_ok-try_step.ensures c.in_ok-try_step-2.ensures))
    c.try_two.ensures.tries
