-- The graph behind tells them.
use Rattle.std.proofs.Common.{◌∙◌, ap, subst}
use Rattle.zx_calculus.specs.Graph.{WellFormed}
use Rattle.zx_extract.specs.Internal.FrontGraphs.{FrontGraph}
use Rattle.zx_extract.proofs.Fronts.{formed}
use Rattle.zx_extract.proofs.front_graph.FrontGraph.inputs.Goals as goal

pub returns-clause-value : goal.returns-clause-value
returns-clause-value c = c.inputs.ensures.value ∙ ap (λ (f : FrontGraph). f.graph.inputs) c.self.view_is

pub returns-clause-valid : goal.returns-clause-valid
returns-clause-valid c = subst (λ (f : FrontGraph). WellFormed f.graph) c.self.view_is
    (formed c.self.inside.inner.graph c.self.inside.rows.lists c.self.invariant)
