use Rattle.std.proofs.Common.{refl, length, arith}
use Rattle.std.proofs.lemmas.Result.{on_ok_weaker}
use Rattle.open_graph.proofs.ReachLemmas.{live_within}
use Rattle.open_graph.proofs.Seeing.{live_there}
use Rattle.open_graph.proofs.open_graph.OpenGraph.reserve.Goals as goal

pub returns-clause-reach : goal.returns-clause-reach
returns-clause-reach c =
    on_ok_weaker c.reserve_room.result
    (λ least v live.
    let slots = c.self.inside.slots.slots in
    let within = live_within slots v (length slots) refl (live_there c.self.invariant c.self.view_is v live) in
    omega (arith, within, least.reach))
    c.reserve_room.ensures.room
