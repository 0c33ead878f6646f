-- The sum of two rows.
use Rattle.std.proofs.Common.{◌≡◌, true, subst, sym, [], ◌∷◌}
use Rattle.std.proofs.lemmas.Result.{on_ok_weaker}
use Rattle.zx_model.specs.Bits.{member}
use Rattle.zx_calculus.specs.Graph.{end_vertices, neighbours}
use Rattle.zx_calculus.specs.Toggles.{across, IsToggled}
use Rattle.zx_extract.specs.Internal.FrontGraphs.{FrontGraph, front_graph, AreOutputsApart}
use Rattle.zx_extract.proofs.Fronts.{formed, row_added}
use Rattle.zx_extract.proofs.front_graph.FrontGraph.add_row.Goals as goal

pub returns-clause-ok : goal.returns-clause-ok
returns-clause-ok c = on_ok_weaker c.toggle_set.result (λ toggled.
    subst (λ (f : FrontGraph). IsToggled f.graph (across (c.args.v ∷ []) (neighbours f.graph c.args.u))
    (front_graph c.self.inside.inner.graph c.toggle_set.new.self.lists)) c.self.view_is
    (row_added c.self.inside.inner.graph c.self.inside.rows.lists c.toggle_set.new.self.lists c.args.u c.args.v c.self.invariant
    (subst (λ (f : FrontGraph). member c.args.u (end_vertices f.graph.outputs) ≡ true) (sym c.self.view_is) c.requires.u_output)
    (subst (λ (f : FrontGraph). member c.args.v (end_vertices f.graph.outputs) ≡ true) (sym c.self.view_is) c.requires.v_output)
    (subst (λ (f : FrontGraph). AreOutputsApart f.graph) (sym c.self.view_is) c.requires.apart) toggled)) c.toggle_set.ensures.ok

pub returns-clause-valid : goal.returns-clause-valid
returns-clause-valid c = formed c.self.inside.inner.graph c.toggle_set.new.self.lists c.self.invariant
