-- As many places in all.
use Rattle.std.proofs.Common.{◌∙◌, ap, length, arith}
use Rattle.std.proofs.lemmas.Result.{on_ok_weaker}
use Rattle.open_graph.proofs.CopyLemmas.{all_places}
use Rattle.open_graph.proofs.RoomLemmas.{count-vertices}
use Rattle.open_graph.proofs.open_graph.OpenGraph.reserve_like.Goals as goal

pub returns-clause-places : goal.returns-clause-places
returns-clause-places c =
    on_ok_weaker c.reserve_room.result
    (λ least.
    let all = all_places c.other.inside.slots.slots in
    let spare = ap (λ g. g.room.spare) c.other.view_is in
    let vertices = ap (λ g. length g.graph.vertices) c.other.view_is in
    let filled = c.filled.ensures.value ∙ count-vertices c.self.inside.slots.slots ∙ ap (λ g. length g.graph.vertices) c.self.view_is in
    let kept = ap (λ g. length g.vertices) c.reserve_room.ensures.same in
    omega (arith, all, spare, vertices, filled, kept, c.len.ensures, c.saturating_sub-vacant.ensures, least.spare))
    c.reserve_room.ensures.room
