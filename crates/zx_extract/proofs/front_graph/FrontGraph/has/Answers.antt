-- The row tells it.
use Rattle.std.proofs.Common.{◌≡◌, ◌∙◌, true, false, ap, subst}
use Rattle.zx_model.specs.Bits.{member}
use Rattle.zx_calculus.specs.Graph.{joined, end_vertices, IsVertex}
use Rattle.zx_extract.specs.Internal.FrontGraphs.{FrontGraph, row_has}
use Rattle.zx_extract.proofs.Fronts.{row_tells}
use Rattle.zx_extract.proofs.front_graph.FrontGraph.has.Goals as goal

pub returns : goal.returns
returns c at_u live out = c.contains.ensures ∙ ap (member c.args.v) c.get.ensures
    ∙ subst (λ (f : FrontGraph). member c.args.u (end_vertices f.graph.outputs) ≡ true → IsVertex f.graph c.args.v →
    member c.args.v (end_vertices f.graph.outputs) ≡ false →
    row_has c.self.inside.rows.lists c.args.u c.args.v ≡ joined f.graph.edges c.args.v c.args.u) c.self.view_is
    (row_tells c.self.inside.inner.graph c.self.inside.rows.lists c.self.invariant c.args.u c.args.v) at_u live out
