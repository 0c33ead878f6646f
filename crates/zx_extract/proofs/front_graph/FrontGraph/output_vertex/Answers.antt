-- The graph behind tells it.
use Rattle.std.proofs.Common.{◌≡◌, ◌<◌, length, subst, sym}
use Rattle.std.specs.Prelude.{slice_get, Some}
use Rattle.zx_calculus.specs.Graph.{end_vertices, WellFormed}
use Rattle.zx_extract.specs.Internal.FrontGraphs.{FrontGraph}
use Rattle.zx_extract.proofs.Fronts.{formed}
use Rattle.zx_extract.proofs.front_graph.FrontGraph.output_vertex.Goals as goal

pub output_vertex-requires : goal.output_vertex-requires
output_vertex-requires c = subst (λ (f : FrontGraph). c.args.i < length f.graph.outputs) (sym c.self.view_is) c.requires

pub returns-clause-value : goal.returns-clause-value
returns-clause-value c = subst (λ (f : FrontGraph). slice_get (end_vertices f.graph.outputs) c.args.i ≡ Some c.output_vertex.result)
    c.self.view_is c.output_vertex.ensures.value

pub returns-clause-valid : goal.returns-clause-valid
returns-clause-valid c = subst (λ (f : FrontGraph). WellFormed f.graph) c.self.view_is
    (formed c.self.inside.inner.graph c.self.inside.rows.lists c.self.invariant)
