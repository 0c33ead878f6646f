use Rattle.std.proofs.Common.{◌∙◌, ap}
use Rattle.open_graph.proofs.vertex_set.VertexSet.iter.Goals as goal

pub returns-clause-value : goal.returns-clause-value
returns-clause-value c = c.iter.ensures.value ∙ ap (λ s. s.ids) c.self.view_is
