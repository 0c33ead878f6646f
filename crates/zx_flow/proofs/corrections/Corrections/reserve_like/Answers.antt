-- As many places in all.
use Rattle.std.proofs.Common.{ap, length, arith}
use Rattle.std.proofs.lemmas.Result.{on_ok_weaker}
use Rattle.gflow_laws.specs.Flow.{order_of}
use Rattle.zx_flow.proofs.SetLemmas.{order_of-table_of}
use Rattle.zx_flow.proofs.corrections.Corrections.reserve_like.Goals as goal

pub returns-clause-places : goal.returns-clause-places
returns-clause-places c =
    on_ok_weaker c.reserve-2.result
    (λ ok.
    let there = c.other.inside in
    let spare = ap (λ k. k.room.spare) c.other.view_is in
    let listed = ap length (order_of-table_of there.sets.lists there.order.items) in
    let order = ap (λ k. length (order_of k.table)) c.other.view_is in
    let stays = ap length (order_of-table_of c.reserve-2.new.self.lists c.reserve.new.self.items) in
    omega (arith, spare, listed, order, stays, c.capacity-places.ensures, c.len.ensures, c.saturating_sub.ensures, c.in_ok-reserve.ensures.ok))
    c.reserve-2.ensures.ok
