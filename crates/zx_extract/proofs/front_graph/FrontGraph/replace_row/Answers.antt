-- Another row.
use Rattle.std.proofs.Common.{◌≡◌, true, false, subst, sym}
use Rattle.std.proofs.lemmas.Result.{on_ok_weaker}
use Rattle.zx_model.specs.Bits.{member}
use Rattle.zx_calculus.specs.Graph.{end_vertices, IsVertex}
use Rattle.zx_extract.specs.Internal.FrontGraphs.{FrontGraph, front_graph, AreOutputsApart, IsRowTaken}
use Rattle.zx_extract.proofs.Fronts.{row_taken}
use Rattle.zx_extract.proofs.front_graph.FrontGraph.replace_row.Goals as goal

pub inner_row-requires : goal.inner_row-requires
inner_row-requires c = subst (λ (f : FrontGraph). IsVertex f.graph c.args.v) (sym c.self.view_is) c.requires.live

pub returns : goal.returns
returns c = on_ok_weaker c.put_row.result (λ put.
    subst (λ (f : FrontGraph). IsRowTaken f.graph c.args.v c.args.u
    (front_graph c.self.inside.inner.graph c.put_row.new.rows.lists)) c.self.view_is
    (row_taken c.self.inside.inner.graph c.self.inside.rows.lists c.put_row.new.rows.lists c.args.u c.args.v c.in_ok-row.row.ids
    c.self.invariant
    (subst (λ (f : FrontGraph). member c.args.u (end_vertices f.graph.outputs) ≡ true) (sym c.self.view_is) c.requires.u_output)
    (subst (λ (f : FrontGraph). IsVertex f.graph c.args.v) (sym c.self.view_is) c.requires.live)
    (subst (λ (f : FrontGraph). member c.args.v (end_vertices f.graph.outputs) ≡ false) (sym c.self.view_is) c.requires.no_output)
    (subst (λ (f : FrontGraph). AreOutputsApart f.graph) (sym c.self.view_is) c.requires.apart) put c.in_ok-row.ensures))
    c.put_row.ensures
