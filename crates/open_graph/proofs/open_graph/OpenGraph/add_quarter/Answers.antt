use Rattle.std.proofs.Common.{◌∙◌, ap}
use Rattle.zx_calculus.specs.Graph.{Plane, Kind, kind_of, with_kinds}
use Rattle.zx_calculus.specs.Turns.{quarter_turned, quarter_turned_in}
use Rattle.zx_calculus.specs.Edits.{at_vertex}
use Rattle.zx_calculus.proofs.Edits.{boundary_XY, with_kinds-at}
use Rattle.open_graph.proofs.open_graph.OpenGraph.add_quarter.Goals as goal

pub set_weight-requires-clause-plane : goal.set_weight-requires-clause-plane
set_weight-requires-clause-plane c e =
    ap (λ (k : Kind). k.plane) (c.with_quarter-plane.ensures ∙ ap quarter_turned c.weight-plane.ensures.value)
    ∙ ap (λ (p : Plane). (quarter_turned_in p (kind_of c.args.self.now.graph.vertices c.args.v).phase).plane) (boundary_XY c.args.self.now.graph c.args.v c.weight-plane.ensures.valid e)

pub returns-clause-ok : goal.returns-clause-ok
returns-clause-ok c =
    c.set_weight.ensures.ok
    ∙ ap (λ (k : Kind). record c.args.self.now.graph { vertices = with_kinds (at_vertex c.args.v (λ _. k)) c.args.self.now.graph.vertices }) (c.with_quarter-plane.ensures ∙ ap quarter_turned c.weight-plane.ensures.value)
    ∙ ap (λ vs. record c.args.self.now.graph { vertices = vs }) (with_kinds-at c.args.v quarter_turned c.args.self.now.graph.vertices c.weight-plane.ensures.valid.vertices_rising)
