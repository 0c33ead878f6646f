-- What the note says is done.
use Rattle.std.proofs.lemmas.Result.{on_ok_weaker}
use Rattle.graph_rewrites.specs.Steps.{step_named}
use Rattle.phase_groups.proofs.Following.{followed}
use Rattle.phase_groups.proofs.groups.PhaseGroups.follow.Goals as goal

pub returns : goal.returns
returns c =
    on_ok_weaker c.take.result
    (followed c.args.graph.now.graph (step_named c.args.step.now) c.in_ok-note.note c.args.self.now c.take.new.self c.in_ok-note.ensures) c.take.ensures
