-- A vertex that the step is about stands in the order, and sets lie below the reach where the graph does.
use Rattle.std.proofs.Common.{◌<◌, sym, ◌∙◌, ap, subst}
use Rattle.zx_model.specs.Bits.{member}
use Rattle.gflow_laws.specs.Flow.{order_of}
use Rattle.graph_rewrites.specs.Steps.{step_named}
use Rattle.zx_flow.proofs.Below.{order_below, set_below, all_sets_below}
use Rattle.flow_rewrites.proofs.SetChanges.{complement_listed, first_listed, second_listed, gone_listed, twin_listed, new_unlisted, output_unlisted, end_live, have_reach}
use Rattle.flow_rewrites.proofs.sets.change_sets.Goals as goal

pub complement_sets-requires-clause-there : goal.complement_sets-requires-clause-there
complement_sets-requires-clause-there c =
    complement_listed c.args.g.now.graph c.args.f.now.flow c.requires.valid c.requires.flow c.in-LocalComplement.u
    (rw c.in-LocalComplement.is at c.requires.allowed)

pub pivot_sets-requires-clause-u_there : goal.pivot_sets-requires-clause-u_there
pivot_sets-requires-clause-u_there c =
    first_listed c.args.g.now.graph c.args.f.now.flow c.requires.valid c.requires.flow c.in-Pivot.u c.in-Pivot.v (rw c.in-Pivot.is at c.requires.allowed)

pub pivot_sets-requires-clause-v_there : goal.pivot_sets-requires-clause-v_there
pivot_sets-requires-clause-v_there c =
    second_listed c.args.g.now.graph c.args.f.now.flow c.requires.valid c.requires.flow c.in-Pivot.u c.in-Pivot.v (rw c.in-Pivot.is at c.requires.allowed)

pub eliminate-requires-in-Delete : goal.eliminate-requires-in-Delete
eliminate-requires-in-Delete c =
    gone_listed c.args.g.now.graph c.args.f.now.flow c.requires.valid c.requires.flow c.args.step.now c.in-Delete.u c.in-Delete.is c.requires.allowed

pub eliminate-requires : goal.eliminate-requires
eliminate-requires c =
    twin_listed c.args.g.now.graph c.args.f.now.flow c.requires.valid c.requires.flow c.in-FuseTwin.field-0 c.in-FuseTwin.v
    (rw c.in-FuseTwin.is at c.requires.allowed)

pub add_first-requires : goal.add_first-requires
add_first-requires c =
    ap (λ v. member v (order_of c.args.f.now.flow)) (c.new.ensures ∙ c.next_id.ensures.value)
    ∙ new_unlisted c.args.g.now.graph c.args.f.now.flow c.requires.valid c.requires.flow c.in-SplitInput.b (rw c.in-SplitInput.is at c.requires.allowed)

pub add_last-requires : goal.add_last-requires
add_last-requires c =
    output_unlisted c.args.g.now.graph c.args.f.now.flow c.requires.valid c.requires.flow c.in-SplitOutput.b (rw c.in-SplitOutput.is at c.requires.allowed)

pub returns-in-Pivot-clause-sets : goal.returns-in-Pivot-clause-sets
returns-in-Pivot-clause-sets c = rw c.in-Pivot.is c.pivot_sets.ensures.sets

pub returns-in-LocalComplement-clause-has_room : goal.returns-in-LocalComplement-clause-has_room
returns-in-LocalComplement-clause-has_room c room =
    let reach = have_reach (step_named c.args.step.now) c.args.g.now c.args.f.now room in
    c.complement_sets.ensures.has_room (order_below c.args.g.now.graph c.args.f.now.flow c.args.f.now.room.reach c.requires.flow reach.1)
    (set_below c.args.g.now.graph c.args.f.now.flow c.args.f.now.room.reach c.requires.flow reach.1 c.in-LocalComplement.u
    (complement_listed c.args.g.now.graph c.args.f.now.flow c.requires.valid c.requires.flow c.in-LocalComplement.u (rw c.in-LocalComplement.is at c.requires.allowed)))

pub returns-in-Pivot-clause-has_room : goal.returns-in-Pivot-clause-has_room
returns-in-Pivot-clause-has_room c room =
    let reach = have_reach (step_named c.args.step.now) c.args.g.now c.args.f.now room in
    c.pivot_sets.ensures.has_room (order_below c.args.g.now.graph c.args.f.now.flow c.args.f.now.room.reach c.requires.flow reach.1)
    (all_sets_below c.args.g.now.graph c.args.f.now.flow c.args.f.now.room.reach c.requires.flow reach.1)

pub returns-in-Delete-clause-has_room : goal.returns-in-Delete-clause-has_room
returns-in-Delete-clause-has_room c room =
    let reach = have_reach (step_named c.args.step.now) c.args.g.now c.args.f.now room in
    c.eliminate-in-Delete.ensures.has_room (order_below c.args.g.now.graph c.args.f.now.flow c.args.f.now.room.reach c.requires.flow reach.1)
    (set_below c.args.g.now.graph c.args.f.now.flow c.args.f.now.room.reach c.requires.flow reach.1 c.in-Delete.u
    (gone_listed c.args.g.now.graph c.args.f.now.flow c.requires.valid c.requires.flow c.args.step.now c.in-Delete.u c.in-Delete.is c.requires.allowed))

pub returns-in-FuseTwin-clause-has_room : goal.returns-in-FuseTwin-clause-has_room
returns-in-FuseTwin-clause-has_room c room =
    let reach = have_reach (step_named c.args.step.now) c.args.g.now c.args.f.now room in
    c.eliminate.ensures.has_room (order_below c.args.g.now.graph c.args.f.now.flow c.args.f.now.room.reach c.requires.flow reach.1)
    (set_below c.args.g.now.graph c.args.f.now.flow c.args.f.now.room.reach c.requires.flow reach.1 c.in-FuseTwin.v
    (twin_listed c.args.g.now.graph c.args.f.now.flow c.requires.valid c.requires.flow c.in-FuseTwin.field-0 c.in-FuseTwin.v (rw c.in-FuseTwin.is at c.requires.allowed)))

pub returns-in-SplitInput-clause-has_room : goal.returns-in-SplitInput-clause-has_room
returns-in-SplitInput-clause-has_room c given =
    let room = rw c.in-SplitInput.is at given in
    c.add_first.ensures.has_room room.flow_place
    (subst (λ v. v < c.args.f.now.room.reach) (sym (c.new.ensures ∙ c.next_id.ensures.value)) room.flow_below)
    (room.reach.1 c.in-SplitInput.b
    (end_live c.args.g.now.graph c.args.g.now.graph.inputs c.in-SplitInput.b c.requires.valid.inputs (rw c.in-SplitInput.is at c.requires.allowed)))

pub returns-in-SplitOutput-clause-has_room : goal.returns-in-SplitOutput-clause-has_room
returns-in-SplitOutput-clause-has_room c given =
    let room = rw c.in-SplitOutput.is at given in
    c.add_last.ensures.has_room room.flow_place
    (room.reach.1 c.in-SplitOutput.b
    (end_live c.args.g.now.graph c.args.g.now.graph.outputs c.in-SplitOutput.b c.requires.valid.outputs (rw c.in-SplitOutput.is at c.requires.allowed)))
    (subst (λ v. v < c.args.f.now.room.reach) (sym (c.new-in-SplitOutput.ensures ∙ c.next_id-in-SplitOutput.ensures.value)) room.flow_below)
