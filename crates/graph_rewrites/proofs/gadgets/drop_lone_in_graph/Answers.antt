-- The removal is the step.
use Rattle.zx_calculus.proofs.Allowed.{drop_lone_live, drop_lone_YZ}
use Rattle.graph_rewrites.proofs.GadgetSteps.{drop_step}
use Rattle.graph_rewrites.proofs.gadgets.drop_lone_in_graph.Goals as goal

pub take_out-requires-clause-live : goal.take_out-requires-clause-live
take_out-requires-clause-live c = drop_lone_live c.args.g.now.graph c.args.u c.requires

pub take_out-requires-clause-gadget : goal.take_out-requires-clause-gadget
take_out-requires-clause-gadget c = drop_lone_YZ c.args.g.now.graph c.args.u c.requires

pub returns-clause-step : goal.returns-clause-step
returns-clause-step c = drop_step c.take_out.ensures.was_valid c.requires c.take_out.ensures.removed
