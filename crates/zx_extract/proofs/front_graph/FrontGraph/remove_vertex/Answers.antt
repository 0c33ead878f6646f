-- The vertex stands in no row.
use Rattle.std.proofs.Common.{subst, sym}
use Rattle.zx_calculus.specs.Graph.{IsVertex, Interior}
use Rattle.zx_calculus.specs.Edits.{IsRemoval}
use Rattle.zx_extract.specs.Internal.FrontGraphs.{FrontGraph, front_graph}
use Rattle.zx_extract.proofs.Fronts.{vertex_removed}
use Rattle.zx_extract.proofs.front_graph.FrontGraph.remove_vertex.Goals as goal

pub remove_vertex-requires : goal.remove_vertex-requires
remove_vertex-requires c =
    let interior = subst (λ (f : FrontGraph). Interior f.graph c.args.v) (sym c.self.view_is) c.requires.interior in
    record {
      live = subst (λ (f : FrontGraph). IsVertex f.graph c.args.v) (sym c.self.view_is) c.requires.live;
      interior = record { no_input = interior.no_input; no_output = interior.no_output };
    }

pub returns : goal.returns
returns c = subst (λ (f : FrontGraph). IsRemoval f.graph c.args.v
    (front_graph c.remove_vertex.new.self.graph c.forget.new.rows.lists)) c.self.view_is
    (vertex_removed c.self.inside.inner.graph c.remove_vertex.new.self.graph c.self.inside.rows.lists c.forget.new.rows.lists
    c.args.v c.self.invariant c.remove_vertex.ensures.valid c.remove_vertex.ensures.ok c.in_ok-forget.ensures)
