use Rattle.std.proofs.Common.{◌∙◌, ap}
use Rattle.zx_model.specs.Bits.{member}
use Rattle.zx_calculus.specs.Graph.{ids}
use Rattle.open_graph.specs.Internal.Slots.{vertices_of}
use Rattle.open_graph.proofs.SlotLemmas.{live_by}
use Rattle.open_graph.proofs.open_graph.OpenGraph.is_live.Goals as goal

pub returns-clause-value : goal.returns-clause-value
returns-clause-value c =
    live_by c.self.inside.slots.slots c.get.result c.contains.result c.contains.ensures
    ∙ ap (λ p. member p (ids (vertices_of c.self.inside.slots.slots))) c.get.ensures
    ∙ ap (λ g. member c.args.v (ids g.graph.vertices)) c.self.view_is
