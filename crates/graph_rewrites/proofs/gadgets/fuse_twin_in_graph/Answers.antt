-- The removal and the new phase are the step.
use Rattle.zx_calculus.proofs.Allowed.{fuse_twin_live, fuse_twin_YZ}
use Rattle.graph_rewrites.proofs.GadgetSteps.{twins_apart, first_live, still_live, fuse_twin_step}
use Rattle.graph_rewrites.proofs.gadgets.fuse_twin_in_graph.Goals as goal

pub take_out-phase-requires-clause-live : goal.take_out-phase-requires-clause-live
take_out-phase-requires-clause-live c = fuse_twin_live c.args.g.now.graph c.args.u c.args.v c.requires

pub take_out-phase-requires-clause-gadget : goal.take_out-phase-requires-clause-gadget
take_out-phase-requires-clause-gadget c = fuse_twin_YZ c.args.g.now.graph c.args.u c.args.v c.requires

pub add_phase-requires : goal.add_phase-requires
add_phase-requires c =
    still_live c.args.g.now.graph c.take_out-phase.new.g.graph c.args.v c.args.u c.take_out-phase.ensures.removed
    (twins_apart c.args.g.now.graph c.args.u c.args.v c.take_out-phase.ensures.was_valid c.requires)
    (first_live c.args.g.now.graph c.args.u c.args.v c.take_out-phase.ensures.was_valid c.requires)

pub returns-clause-step : goal.returns-clause-step
returns-clause-step c =
    fuse_twin_step c.take_out-phase.result c.take_out-phase.ensures.was_valid c.requires
    c.take_out-phase.ensures.phase c.take_out-phase.ensures.removed c.add_phase.ensures.added
