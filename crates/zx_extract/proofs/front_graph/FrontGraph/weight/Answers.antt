-- The graph behind tells it.
use Rattle.std.proofs.Common.{◌∙◌, ap, subst, sym}
use Rattle.zx_calculus.specs.Graph.{kind_of, IsVertex, WellFormed}
use Rattle.zx_extract.specs.Internal.FrontGraphs.{FrontGraph}
use Rattle.zx_extract.proofs.Fronts.{formed}
use Rattle.zx_extract.proofs.front_graph.FrontGraph.weight.Goals as goal

pub weight-requires : goal.weight-requires
weight-requires c = subst (λ (f : FrontGraph). IsVertex f.graph c.args.v) (sym c.self.view_is) c.requires

pub returns-clause-value : goal.returns-clause-value
returns-clause-value c = c.weight.ensures.value ∙ ap (λ (f : FrontGraph). kind_of f.graph.vertices c.args.v) c.self.view_is

pub returns-clause-valid : goal.returns-clause-valid
returns-clause-valid c = subst (λ (f : FrontGraph). WellFormed f.graph) c.self.view_is
    (formed c.self.inside.inner.graph c.self.inside.rows.lists c.self.invariant)
