-- What has no slot has no vertex, and what has one has one.
use Rattle.std.proofs.Common.{◌∙◌, ap}
use Rattle.zx_calculus.specs.Graph.{ids}
use Rattle.zx_calculus.specs.Splits.{least_free}
use Rattle.zx_calculus.proofs.LeastFree.{least_free-unique}
use Rattle.open_graph.specs.Internal.Slots.{told_by, vertices_of}
use Rattle.open_graph.proofs.SlotLemmas.{rising_vertices, member-vertices, member_of_some}
use Rattle.open_graph.proofs.open_graph.OpenGraph.next_id.Goals as goal

pub returns-clause-value : goal.returns-clause-value
returns-clause-value c =
    let slots = c.self.inside.slots.slots in
    least_free-unique (ids (vertices_of slots)) c.next_id.result (rising_vertices 0 slots)
    (member-vertices slots c.next_id.result ∙ ap (λ o. (told_by o).live) c.next_id.ensures.vacant)
    (λ q lt. member_of_some slots q (c.next_id.ensures.least q lt))
    ∙ ap (λ g. least_free (ids g.graph.vertices)) c.self.view_is
