-- The removal and the new phase are the step.
use Rattle.zx_calculus.proofs.Allowed.{fuse_into_live, fuse_into_YZ}
use Rattle.graph_rewrites.proofs.GadgetSteps.{leg_found, found_leg, leg_apart, leg_live, still_live, fuse_into_step}
use Rattle.graph_rewrites.proofs.gadgets.fuse_into_in_graph.Goals as goal

pub neighbour_from-requires : goal.neighbour_from-requires
neighbour_from-requires c = fuse_into_live c.args.g.now.graph c.args.u c.requires

pub take_out-phase-requires-clause-live : goal.take_out-phase-requires-clause-live
take_out-phase-requires-clause-live c = fuse_into_live c.args.g.now.graph c.args.u c.requires

pub take_out-phase-requires-clause-gadget : goal.take_out-phase-requires-clause-gadget
take_out-phase-requires-clause-gadget c = fuse_into_YZ c.args.g.now.graph c.args.u c.requires

pub unwrap-into-requires : goal.unwrap-into-requires
unwrap-into-requires c =
    leg_found c.args.g.now.graph c.args.u c.neighbour_from.result c.neighbour_from.ensures.valid c.requires
    c.neighbour_from.ensures.first

pub add_phase-requires : goal.add_phase-requires
add_phase-requires c =
    let leg = found_leg c.args.g.now.graph c.args.u c.unwrap-into.result c.neighbour_from.result c.unwrap-into.ensures
    c.neighbour_from.ensures.first in
    still_live c.args.g.now.graph c.take_out-phase.new.g.graph c.args.u c.unwrap-into.result
    c.take_out-phase.ensures.removed
    (leg_apart c.args.g.now.graph c.args.u c.unwrap-into.result c.neighbour_from.ensures.valid leg)
    (leg_live c.args.g.now.graph c.args.u c.unwrap-into.result c.neighbour_from.ensures.valid leg)

pub returns-clause-step : goal.returns-clause-step
returns-clause-step c =
    fuse_into_step c.unwrap-into.result c.take_out-phase.result c.neighbour_from.ensures.valid c.requires
    (found_leg c.args.g.now.graph c.args.u c.unwrap-into.result c.neighbour_from.result c.unwrap-into.ensures
    c.neighbour_from.ensures.first)
    c.take_out-phase.ensures.phase c.take_out-phase.ensures.removed
    c.add_phase.ensures.added
