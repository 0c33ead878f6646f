-- The new phase is the sum.
use Rattle.std.proofs.Common.{◌∙◌, ap}
use Rattle.zx_calculus.specs.Graph.{Kind, with_kinds}
use Rattle.zx_calculus.specs.Turns.{in_plane, with_phase_added}
use Rattle.zx_calculus.specs.Edits.{at_vertex}
use Rattle.zx_calculus.proofs.Edits.{boundary_XY, with_kinds-at}
use Rattle.open_graph.specs.Planes.{plane_named}
use Rattle.graph_rewrites.proofs.gadget.add_phase.Goals as goal

pub set_weight-requires-clause-plane : goal.set_weight-requires-clause-plane
set_weight-requires-clause-plane c boundary =
    ap (λ (k : Kind). k.plane) c.weight-plane.ensures.value
    ∙ boundary_XY c.args.g.now.graph c.args.v c.weight-plane.ensures.valid boundary

pub returns-clause-added : goal.returns-clause-added
returns-clause-added c =
    c.set_weight.ensures.ok
    ∙ ap (λ (k : Kind). record c.args.g.now.graph { vertices = with_kinds (at_vertex c.args.v (λ _. k)) c.args.g.now.graph.vertices })
    (ap (in_plane (plane_named c.weight-plane.result.0)) c.add.ensures ∙ ap (with_phase_added c.args.phase) c.weight-plane.ensures.value)
    ∙ ap (λ vs. record c.args.g.now.graph { vertices = vs })
    (with_kinds-at c.args.v (with_phase_added c.args.phase) c.args.g.now.graph.vertices c.weight-plane.ensures.valid.vertices_rising)
