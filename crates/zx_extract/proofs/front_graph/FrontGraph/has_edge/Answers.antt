-- Of two outputs the graph behind tells it.
use Rattle.std.proofs.Common.{◌≡◌, ◌∙◌, true, ap, subst, sym}
use Rattle.zx_model.specs.Bits.{member}
use Rattle.zx_calculus.specs.Graph.{joined, end_vertices, WellFormed}
use Rattle.zx_extract.specs.Internal.FrontGraphs.{FrontGraph}
use Rattle.zx_extract.proofs.Fronts.{formed, output_live, graph_tells}
use Rattle.zx_extract.proofs.front_graph.FrontGraph.has_edge.Goals as goal

pub has_edge-requires : goal.has_edge-requires
has_edge-requires c = output_live c.self.inside.inner.graph c.self.inside.rows.lists c.self.invariant c.args.u
    (subst (λ (f : FrontGraph). member c.args.u (end_vertices f.graph.outputs) ≡ true) (sym c.self.view_is) c.requires.u_output)

pub returns-clause-value : goal.returns-clause-value
returns-clause-value c = c.has_edge.ensures.value
    ∙ graph_tells c.self.inside.inner.graph c.self.inside.rows.lists c.self.invariant c.args.u c.args.v
    (subst (λ (f : FrontGraph). member c.args.u (end_vertices f.graph.outputs) ≡ true) (sym c.self.view_is) c.requires.u_output)
    (subst (λ (f : FrontGraph). member c.args.v (end_vertices f.graph.outputs) ≡ true) (sym c.self.view_is) c.requires.v_output)
    ∙ ap (λ (f : FrontGraph). joined f.graph.edges c.args.u c.args.v) c.self.view_is

pub returns-clause-valid : goal.returns-clause-valid
returns-clause-valid c = subst (λ (f : FrontGraph). WellFormed f.graph) c.self.view_is
    (formed c.self.inside.inner.graph c.self.inside.rows.lists c.self.invariant)
