-- The graph behind tells it.
use Rattle.std.proofs.Common.{◌∙◌, ap, subst, sym}
use Rattle.zx_model.specs.Bits.{member}
use Rattle.zx_calculus.specs.Graph.{end_vertices, IsVertex}
use Rattle.zx_extract.specs.Internal.FrontGraphs.{FrontGraph}
use Rattle.zx_extract.proofs.front_graph.FrontGraph.has_input.Goals as goal

pub input_at-requires : goal.input_at-requires
input_at-requires c = subst (λ (f : FrontGraph). IsVertex f.graph c.args.v) (sym c.self.view_is) c.requires

pub returns : goal.returns
returns c = c.is_some.ensures ∙ c.input_at.ensures.found
    ∙ ap (λ (f : FrontGraph). member c.args.v (end_vertices f.graph.inputs)) c.self.view_is
