-- The graph behind tells it.
use Rattle.std.proofs.Common.{◌∙◌, ◌≤◌, length, ap, subst}
use Rattle.open_graph.specs.OpenGraph.{most_vertices_in_memory}
use Rattle.zx_extract.specs.Internal.FrontGraphs.{FrontGraph}
use Rattle.zx_extract.proofs.front_graph.FrontGraph.vertex_count.Goals as goal

pub returns-clause-value : goal.returns-clause-value
returns-clause-value c = c.vertex_count.ensures.value ∙ ap (λ (f : FrontGraph). length f.graph.vertices) c.self.view_is

pub returns-clause-few : goal.returns-clause-few
returns-clause-few c = subst (λ (f : FrontGraph). length f.graph.vertices ≤ most_vertices_in_memory) c.self.view_is
    c.vertex_count.ensures.few
