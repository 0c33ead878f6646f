-- The edges stay.
use Rattle.std.proofs.Common.{◌≡◌, ◌∙◌, false, ap, subst, sym}
use Rattle.zx_calculus.specs.Graph.{XY, is_interior, with_kinds, IsVertex}
use Rattle.zx_calculus.specs.Edits.{at_vertex}
use Rattle.zx_calculus.specs.Turns.{in_plane}
use Rattle.open_graph.specs.Planes.{plane_named}
use Rattle.zx_extract.specs.Internal.FrontGraphs.{FrontGraph}
use Rattle.zx_extract.proofs.Fronts.{formed, kinds_changed}
use Rattle.zx_extract.proofs.front_graph.FrontGraph.set_weight.Goals as goal

pub set_weight-requires : goal.set_weight-requires
set_weight-requires c = record {
  live = subst (λ (f : FrontGraph). IsVertex f.graph c.args.v) (sym c.self.view_is) c.requires.live;
  plane = subst (λ (f : FrontGraph). is_interior f.graph c.args.v ≡ false → plane_named c.args.plane ≡ XY)
      (sym c.self.view_is) c.requires.plane;
}

pub invariant_of-self : goal.invariant_of-self
invariant_of-self c = c.set_weight.ensures.valid

pub returns-clause-ok : goal.returns-clause-ok
returns-clause-ok c =
    kinds_changed c.self.inside.inner.graph c.set_weight.new.self.graph c.self.inside.rows.lists
    (at_vertex c.args.v (λ _. in_plane (plane_named c.args.plane) c.args.phase)) c.set_weight.ensures.ok
    ∙ ap (λ (f : FrontGraph). record f.graph {
      vertices = with_kinds (at_vertex c.args.v (λ _. in_plane (plane_named c.args.plane) c.args.phase)) f.graph.vertices;
    }) c.self.view_is

pub returns-clause-valid : goal.returns-clause-valid
returns-clause-valid c = formed c.set_weight.new.self.graph c.self.inside.rows.lists c.set_weight.ensures.valid
