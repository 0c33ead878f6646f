-- The three changes are the step.
use Rattle.std.proofs.Common.{◌∙◌, subst, IsOk}
use Rattle.std.proofs.lemmas.Bool.{false≢true}
use Rattle.zx_calculus.specs.Graph.{neighbours}
use Rattle.zx_calculus.specs.Turns.{in_plane, quarter_turned}
use Rattle.zx_calculus.specs.Toggles.{among}
use Rattle.zx_calculus.specs.Internal.ChangedKinds.{changed_in}
use Rattle.zx_calculus.proofs.Allowed.{complement_live, complement_interior}
use Rattle.zx_calculus.proofs.Toggling.{toggled_live, neighbour_live}
use Rattle.zx_calculus.proofs.ChangedKinds.{turned_live}
use Rattle.open_graph.specs.Planes.{plane_named}
use Rattle.graph_rewrites.proofs.ComplementSteps.{complement_all, complement_scalar_is}
use Rattle.graph_rewrites.proofs.complement.local_complement_in_graph.Goals as goal

pub weight-plane-requires : goal.weight-plane-requires
weight-plane-requires c = complement_live c.args.g.now.graph c.args.u c.requires

pub toggle_neighbours-requires : goal.toggle_neighbours-requires
toggle_neighbours-requires c = complement_live c.args.g.now.graph c.args.u c.requires

pub turn_neighbours-powers-requires : goal.turn_neighbours-powers-requires
turn_neighbours-powers-requires c =
    toggled_live c.args.g.now.graph c.toggle_neighbours.new.self.graph (among (neighbours c.args.g.now.graph c.args.u))
    c.args.u
    c.in_ok-toggle_neighbours.ensures.ok (complement_live c.args.g.now.graph c.args.u c.requires)

pub complement_own-requires-clause-live : goal.complement_own-requires-clause-live
complement_own-requires-clause-live c =
    turned_live (changed_in (neighbours c.toggle_neighbours.new.self.graph c.args.u) quarter_turned)
    c.toggle_neighbours.new.self.graph
    c.turn_neighbours-powers.new.self.graph c.args.u c.turn_neighbours-powers.ensures.ok
    (toggled_live c.args.g.now.graph c.toggle_neighbours.new.self.graph (among (neighbours c.args.g.now.graph c.args.u))
    c.args.u
    c.in_ok-toggle_neighbours.ensures.ok (complement_live c.args.g.now.graph c.args.u c.requires))

pub returns-clause-step : goal.returns-clause-step
returns-clause-step c =
    complement_all c.args.g.now.graph c.toggle_neighbours.new.self.graph c.turn_neighbours-powers.new.self.graph
    c.complement_own.new.g.graph c.args.u
    c.toggle_neighbours.ensures.was_valid c.in_ok-toggle_neighbours.ensures.valid
    (complement_live c.args.g.now.graph c.args.u c.requires) (complement_interior c.args.g.now.graph c.args.u c.requires)
    c.in_ok-toggle_neighbours.ensures.ok
    c.turn_neighbours-powers.ensures.ok c.complement_own.ensures.own

pub returns-clause-scalar : goal.returns-clause-scalar
returns-clause-scalar c =
    c.complement_scalar.ensures
    ∙ complement_scalar_is c.args.g.now.graph c.toggle_neighbours.new.self.graph c.args.u
    c.toggle_neighbours.ensures.was_valid c.in_ok-toggle_neighbours.ensures.valid c.in_ok-toggle_neighbours.ensures.ok
    (in_plane (plane_named c.weight-plane.result.0) c.weight-plane.result.1) c.weight-plane.ensures.value
    c.turn_neighbours-powers.result c.turn_neighbours-powers.ensures.power

pub returns-in_err-toggle_neighbours-clause-has_room : goal.returns-in_err-toggle_neighbours-clause-has_room
returns-in_err-toggle_neighbours-clause-has_room c below =
    absurd (false≢true (subst IsOk c.in_err-toggle_neighbours.was
    (c.toggle_neighbours.ensures.has_room (λ p there. below p (neighbour_live c.args.g.now.graph c.args.u p there)))))
