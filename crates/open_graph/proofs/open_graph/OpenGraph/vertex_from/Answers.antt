use Rattle.std.proofs.Common.{◌≡◌, rules}
use Rattle.open_graph.proofs.SlotLemmas.{first_vertex}
use Rattle.open_graph.proofs.open_graph.OpenGraph.vertex_from.Goals as goal

pub returns-clause-first : goal.returns-clause-first
returns-clause-first c =
    let found = first_vertex c.self.inside.slots.slots c.args.start c.first_from.result c.first_from.ensures.first in
    let same : c.map.result ≡ c.first_from.result = search rules in
    rw (← c.self.view_is, same) found
