-- The edge is that of the graph behind.
use Rattle.std.proofs.Common.{◌≡◌, true, subst, sym}
use Rattle.std.proofs.lemmas.Result.{on_ok_weaker}
use Rattle.zx_model.specs.Bits.{member}
use Rattle.zx_calculus.specs.Graph.{end_vertices}
use Rattle.zx_calculus.specs.Edits.{IsToggle}
use Rattle.zx_extract.specs.Internal.FrontGraphs.{FrontGraph, front_graph}
use Rattle.zx_extract.proofs.Fronts.{formed, output_live, edge_toggled}
use Rattle.zx_extract.proofs.front_graph.FrontGraph.toggle_edge.Goals as goal

pub toggle_edge-requires : goal.toggle_edge-requires
toggle_edge-requires c = record {
  u_live = output_live c.self.inside.inner.graph c.self.inside.rows.lists c.self.invariant c.args.u
      (subst (λ (f : FrontGraph). member c.args.u (end_vertices f.graph.outputs) ≡ true) (sym c.self.view_is) c.requires.u_output);
  v_live = output_live c.self.inside.inner.graph c.self.inside.rows.lists c.self.invariant c.args.v
      (subst (λ (f : FrontGraph). member c.args.v (end_vertices f.graph.outputs) ≡ true) (sym c.self.view_is) c.requires.v_output);
  different = c.requires.different;
}

pub invariant_of-self : goal.invariant_of-self
invariant_of-self c = c.toggle_edge.ensures.valid

pub returns-clause-ok : goal.returns-clause-ok
returns-clause-ok c = on_ok_weaker c.toggle_edge.result (λ toggled.
    subst (λ (f : FrontGraph). IsToggle f.graph c.args.u c.args.v
    (front_graph c.toggle_edge.new.self.graph c.self.inside.rows.lists)) c.self.view_is
    (edge_toggled c.self.inside.inner.graph c.toggle_edge.new.self.graph c.self.inside.rows.lists c.args.u c.args.v
    c.self.invariant c.toggle_edge.ensures.valid
    (subst (λ (f : FrontGraph). member c.args.u (end_vertices f.graph.outputs) ≡ true) (sym c.self.view_is) c.requires.u_output)
    (subst (λ (f : FrontGraph). member c.args.v (end_vertices f.graph.outputs) ≡ true) (sym c.self.view_is) c.requires.v_output)
    c.requires.different toggled)) c.toggle_edge.ensures.ok

pub returns-clause-valid : goal.returns-clause-valid
returns-clause-valid c = formed c.toggle_edge.new.self.graph c.self.inside.rows.lists c.toggle_edge.ensures.valid
