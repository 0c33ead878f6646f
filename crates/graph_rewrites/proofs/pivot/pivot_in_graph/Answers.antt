-- The common neighbours, the edges, and the two vertices.
use Rattle.std.proofs.Common.{◌∙◌, ap, subst, IsOk}
use Rattle.std.proofs.lemmas.Bool.{false≢true}
use Rattle.zx_bits.specs.Sets.{IsBelow}
use Rattle.zx_calculus.specs.Graph.{Graph, ids, joined, neighbours}
use Rattle.zx_calculus.specs.Edits.{at_vertex}
use Rattle.zx_calculus.specs.Turns.{pivoted}
use Rattle.zx_calculus.specs.Internal.ChangedKinds.{with_changed}
use Rattle.zx_calculus.proofs.Allowed.{pivot_live, pivot_live_too, pivot_joined}
use Rattle.zx_calculus.proofs.ChangedKinds.{turned_live}
use Rattle.open_graph.specs.Rooms.{Room}
use Rattle.graph_rewrites.specs.Internal.Changes.{IsRewired, half_turned_in}
use Rattle.graph_rewrites.proofs.Rewiring.{turned_below}
use Rattle.graph_rewrites.proofs.PivotSteps.{adjacent_apart, rewired_live, pivot_step}
use Rattle.graph_rewrites.proofs.pivot.pivot_in_graph.Goals as goal

pub turn_common-requires-clause-u_live : goal.turn_common-requires-clause-u_live
turn_common-requires-clause-u_live c = pivot_live c.args.g.now.graph c.args.u c.args.v c.requires

pub turn_common-requires-clause-v_live : goal.turn_common-requires-clause-v_live
turn_common-requires-clause-v_live c = pivot_live_too c.args.g.now.graph c.args.u c.args.v c.requires

pub rewire-requires-clause-u_live : goal.rewire-requires-clause-u_live
rewire-requires-clause-u_live c =
    let g = c.args.g.now.graph in
    turned_live (half_turned_in (neighbours g c.args.u) (joined g.edges c.args.v)) g c.turn_common.new.g.graph c.args.u
    c.turn_common.ensures.turned (pivot_live c.args.g.now.graph c.args.u c.args.v c.requires)

pub rewire-requires-clause-v_live : goal.rewire-requires-clause-v_live
rewire-requires-clause-v_live c =
    let g = c.args.g.now.graph in
    turned_live (half_turned_in (neighbours g c.args.u) (joined g.edges c.args.v)) g c.turn_common.new.g.graph c.args.v
    c.turn_common.ensures.turned (pivot_live_too c.args.g.now.graph c.args.u c.args.v c.requires)

pub rewire-requires-clause-different : goal.rewire-requires-clause-different
rewire-requires-clause-different c =
    adjacent_apart c.args.g.now.graph c.args.u c.args.v c.turn_common.ensures.was_valid
    (pivot_joined c.args.g.now.graph c.args.u c.args.v c.requires)

pub pivot_own-requires-clause-live : goal.pivot_own-requires-clause-live
pivot_own-requires-clause-live c =
    rewired_live c.args.g.now.graph c.rewire.new.g.graph c.args.u c.args.v c.turn_common.ensures.was_valid c.requires
    (subst (λ (k : Graph). IsRewired k c.args.u c.args.v c.rewire.new.g.graph) c.turn_common.ensures.turned c.in_ok-rewire.ensures.rewired)
    c.args.u (pivot_live c.args.g.now.graph c.args.u c.args.v c.requires)

pub pivot_own-requires-2-clause-live : goal.pivot_own-requires-2-clause-live
pivot_own-requires-2-clause-live c =
    turned_live (at_vertex c.args.u pivoted) c.rewire.new.g.graph c.pivot_own.new.g.graph c.args.v
    c.pivot_own.ensures.own
    (rewired_live c.args.g.now.graph c.rewire.new.g.graph c.args.u c.args.v c.turn_common.ensures.was_valid c.requires
    (subst (λ (k : Graph). IsRewired k c.args.u c.args.v c.rewire.new.g.graph) c.turn_common.ensures.turned c.in_ok-rewire.ensures.rewired)
    c.args.v (pivot_live_too c.args.g.now.graph c.args.u c.args.v c.requires))

pub returns-clause-step : goal.returns-clause-step
returns-clause-step c =
    pivot_step c.args.g.now.graph c.rewire.new.g.graph c.args.u c.args.v c.turn_common.ensures.was_valid c.requires
    (subst (λ (k : Graph). IsRewired k c.args.u c.args.v c.rewire.new.g.graph) c.turn_common.ensures.turned c.in_ok-rewire.ensures.rewired)
    c.pivot_own-2.new.g.graph
    (c.pivot_own-2.ensures.own ∙ ap (with_changed (at_vertex c.args.v pivoted)) c.pivot_own.ensures.own) c.pivot_own-2.ensures.valid

pub returns-in_err-rewire-clause-has_room : goal.returns-in_err-rewire-clause-has_room
returns-in_err-rewire-clause-has_room c below =
    let g = c.args.g.now.graph in
    let halves = half_turned_in (neighbours g c.args.u) (joined g.edges c.args.v) in
    absurd (false≢true (subst IsOk c.in_err-rewire.was
    (subst (λ r. IsBelow r (ids c.turn_common.new.g.graph.vertices) → IsOk c.rewire.result) (ap (λ (r : Room). r.reach) c.turn_common.ensures.room) c.rewire.ensures.has_room
    (turned_below halves g c.turn_common.new.g.graph c.args.g.now.room.reach c.turn_common.ensures.turned below))))
