-- Steps that are tried, then moves in their order.
use Rattle.std.proofs.Common.{◌∙◌, ◌++◌}
use Rattle.std.proofs.lemmas.Result.{on_ok_weaker}
use Rattle.zx_reduce.proofs.Doing.{done_gates, done_ordered, done_then, tries_then}
use Rattle.zx_reduce.proofs.engine.Engine.make_all.Goals as goal

pub loop-self-init : goal.loop-self-init
loop-self-init c = record {
  tries = tries_then c.args.self.now.progress c.fuse_twins.new.self.progress c.drain-2.new.self.progress
      (tries_then c.args.self.now.progress c.drain.new.self.progress c.fuse_twins.new.self.progress c.in_ok-drain.ensures.tries c.in_ok-fuse_twins.ensures.tries)
      c.in_ok-drain-2.ensures.tries;
}

pub try_move-requires-clause-valid : goal.try_move-requires-clause-valid
try_move-requires-clause-valid c =
    let tries = c.loop-self.invariant.tries in
    (done_ordered c.args.self.now.progress tries.steps c.loop-self.self.progress tries.done c.requires.ordered).well_formed

pub loop-self-preserved : goal.loop-self-preserved
loop-self-preserved c = record {
  tries = tries_then c.args.self.now.progress c.try_move.new.self.progress c.drain-in-loop-self.new.self.progress
      (tries_then c.args.self.now.progress c.loop-self.self.progress c.try_move.new.self.progress c.loop-self.invariant.tries c.in_ok-try_move.ensures.tries)
      c.in_ok-drain-3.ensures.tries;
}

pub make_all-requires-clause-ordered : goal.make_all-requires-clause-ordered
make_all-requires-clause-ordered c =
    let tries = c.loop-self.invariant.tries in done_ordered c.args.self.now.progress tries.steps c.loop-self.self.progress tries.done c.requires.ordered

pub make_all-requires-clause-closed : goal.make_all-requires-clause-closed
make_all-requires-clause-closed c =
    let tries = c.loop-self.invariant.tries in done_gates c.args.self.now.progress tries.steps c.loop-self.self.progress tries.done ∙ c.requires.closed

pub returns : goal.returns
returns c =
    let tries = c.loop-self.invariant.tries in
    on_ok_weaker c.make_all.result
    (λ all. record {
      steps = tries.steps ++ all.steps;
      done = done_then c.args.self.now.progress tries.steps c.loop-self.self.progress all.steps c.make_all.new.self tries.done all.done;
      stuck = all.stuck;
    })
    c.make_all.ensures
