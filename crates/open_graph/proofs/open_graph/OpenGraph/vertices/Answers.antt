use Rattle.std.proofs.Common.{◌∙◌, ap}
use Rattle.zx_calculus.specs.Graph.{ids}
use Rattle.open_graph.specs.Internal.Slots.{vertices_of}
use Rattle.open_graph.proofs.RowLemmas.{all_are_left}
use Rattle.open_graph.proofs.open_graph.OpenGraph.vertices.Goals as goal

pub returns-clause-value : goal.returns-clause-value
returns-clause-value c = all_are_left (ids (vertices_of c.self.inside.slots.slots)) ∙ ap (λ g. ids g.graph.vertices) c.self.view_is
