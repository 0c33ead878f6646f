-- Each entry with a slot is a vertex.
use Rattle.std.proofs.Common.{◌∙◌, ap, length, arith}
use Rattle.open_graph.proofs.RoomLemmas.{count-vertices}
use Rattle.open_graph.proofs.open_graph.OpenGraph.vertex_count.Goals as goal

pub returns-clause-value : goal.returns-clause-value
returns-clause-value c =
    c.filled.ensures.value ∙ count-vertices c.self.inside.slots.slots ∙ ap (λ g. length g.graph.vertices) c.self.view_is

pub returns-clause-few : goal.returns-clause-few
returns-clause-few c =
    let count = count-vertices c.self.inside.slots.slots ∙ ap (λ g. length g.graph.vertices) c.self.view_is in
    omega (arith, c.filled.ensures.value, c.filled.ensures.few, count)
