-- The vertices of outputs stay.
use Rattle.std.proofs.Common.{◌≡◌, ◌<◌, ◌∙◌, false, length, remove, set, ap, subst, sym}
use Rattle.std.specs.Prelude.{slice_get}
use Rattle.zx_model.specs.Bits.{member}
use Rattle.zx_calculus.specs.Graph.{XY, plane_of, end_vertices, IsVertex}
use Rattle.circuit_laws.proofs.Places.{places-same}
use Rattle.zx_extract.specs.Internal.FrontGraphs.{FrontGraph}
use Rattle.zx_extract.proofs.Fronts.{formed, outputs_changed}
use Rattle.zx_extract.proofs.front_graph.FrontGraph.set_output.Goals as goal

pub move_output-requires : goal.move_output-requires
move_output-requires c = record {
  in_range = subst (λ (f : FrontGraph). c.args.i < length f.graph.outputs) (sym c.self.view_is) c.requires.in_range;
  live = subst (λ (f : FrontGraph). IsVertex f.graph c.args.end.vertex) (sym c.self.view_is) c.requires.live;
  plane = subst (λ (f : FrontGraph). plane_of f.graph c.args.end.vertex ≡ XY) (sym c.self.view_is) c.requires.plane;
  free = subst (λ (f : FrontGraph). member c.args.end.vertex (end_vertices (remove f.graph.outputs c.args.i)) ≡ false)
      (sym c.self.view_is) c.requires.free;
}

pub invariant_of-self : goal.invariant_of-self
invariant_of-self c = c.move_output.ensures.valid

pub returns-clause-ok : goal.returns-clause-ok
returns-clause-ok c =
    outputs_changed c.self.inside.inner.graph c.move_output.new.self.graph c.self.inside.rows.lists
    (set c.self.inside.inner.graph.outputs c.args.i c.args.end) c.move_output.ensures.ok
    (places-same c.self.inside.inner.graph.outputs c.args.i c.requires.same.0 c.args.end
    (ap (λ (f : FrontGraph). slice_get f.graph.outputs c.args.i) c.self.view_is ∙ c.requires.same.1) c.requires.same.2)
    ∙ ap (λ (f : FrontGraph). record f.graph { outputs = set f.graph.outputs c.args.i c.args.end }) c.self.view_is

pub returns-clause-valid : goal.returns-clause-valid
returns-clause-valid c = formed c.move_output.new.self.graph c.self.inside.rows.lists c.move_output.ensures.valid
