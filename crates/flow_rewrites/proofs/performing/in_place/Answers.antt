-- The step of both, from that of each.
use Rattle.graph_rewrites.specs.Steps.{step_named}
use Rattle.flow_rewrites.proofs.SetChanges.{done_both}
use Rattle.flow_rewrites.proofs.performing.in_place.Goals as goal

pub returns-clause-done : goal.returns-clause-done
returns-clause-done c =
    let sets = c.in_ok-change_sets.ensures in
    done_both (step_named c.args.step.now) c.args.g.now c.do_in.new.g c.args.f.now c.change_sets.new.f c.do_in.result c.requires.valid c.requires.flow
    sets.sets sets.table sets.room sets.same_room c.do_in.ensures.step c.do_in.ensures.scalar c.do_in.ensures.room
