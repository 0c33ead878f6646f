-- A gadget has no end.
use Rattle.graph_rewrites.proofs.GadgetSteps.{gadget_interior}
use Rattle.graph_rewrites.proofs.gadget.take_out.Goals as goal

pub remove_vertex-requires-clause-interior : goal.remove_vertex-requires-clause-interior
remove_vertex-requires-clause-interior c =
    gadget_interior c.args.g.now.graph c.args.u c.weight-phase.ensures.valid c.requires.gadget
