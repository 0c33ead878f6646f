-- The half turn and the removal are the step.
use Rattle.zx_calculus.proofs.Allowed.{delete_live}
use Rattle.graph_rewrites.proofs.ComplementSteps.{deletable_live, deletable_interior, delete_step}
use Rattle.graph_rewrites.proofs.deletion.delete_in_graph.Goals as goal

pub pass_half_turn-scalar-requires : goal.pass_half_turn-scalar-requires
pass_half_turn-scalar-requires c = delete_live c.args.g.now.graph c.args.u c.requires

pub remove_vertex-requires-clause-live : goal.remove_vertex-requires-clause-live
remove_vertex-requires-clause-live c =
    deletable_live c.args.g.now.graph c.pass_half_turn-scalar.new.g.graph c.args.u c.pass_half_turn-scalar.ensures.turned c.requires

pub remove_vertex-requires-clause-interior : goal.remove_vertex-requires-clause-interior
remove_vertex-requires-clause-interior c =
    deletable_interior c.args.g.now.graph c.pass_half_turn-scalar.new.g.graph c.args.u c.pass_half_turn-scalar.ensures.was_valid
    c.pass_half_turn-scalar.ensures.turned c.requires

pub returns-clause-step : goal.returns-clause-step
returns-clause-step c =
    delete_step c.args.g.now.graph c.pass_half_turn-scalar.new.g.graph c.remove_vertex.new.self.graph c.args.u
    c.pass_half_turn-scalar.ensures.was_valid c.pass_half_turn-scalar.ensures.turned c.requires c.remove_vertex.ensures.ok
