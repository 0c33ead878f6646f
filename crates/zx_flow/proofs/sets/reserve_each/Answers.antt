-- One set more has room.
use Rattle.std.proofs.Common.{◌≡◌, ◌∙◌, ap, subst, ℕ, ◌<◌, ◌≤◌, length, set, arith}
use Rattle.std.proofs.lemmas.List.{get_or_default, length-set}
use Rattle.open_graph.specs.VertexSets.{VertexSet}
use Rattle.zx_flow.specs.VertexSets.{no_set, set_at}
use Rattle.zx_flow.specs.Internal.Sets.{room_at}
use Rattle.zx_flow.proofs.RoomLemmas.{same_put, more_room, next_room}
use Rattle.zx_flow.proofs.sets.reserve_each.Goals as goal
use Rattle.zx_flow.proofs.sets.reserve_each.Goals.{After-reserve}

-- the set that comes has its members still, and no less room
kept : (c : After-reserve) (p : ℕ) → let new = set c.loop-set.lists c.loop-set.set-index c.reserve.new.self in
    (set_at new p ≡ set_at c.args.lists.now p) × (room_at c.args.lists.now p ≤ room_at new p)
kept c p =
    let i = c.loop-set.set-index in
    let now = c.loop-set.lists in
    let s = c.reserve.new.self in
    let within : i < length now = omega arith in
    let item = get_or_default now i c.set-item.result no_set within in
    let more : room_at now i ≤ s.room = subst (λ (x : VertexSet). x.room ≤ s.room) item c.reserve.ensures.keeps_room in
    let before = c.loop-set.invariant.room p in
    let after = more_room now i s within more p in (
      same_put now i s within (c.reserve.ensures.ids ∙ ap (λ (x : VertexSet). x.ids) item) p ∙ c.loop-set.invariant.same p,
      omega (arith, before, after),
    )

pub loop-set-preserved : goal.loop-set-preserved
loop-set-preserved c =
    let i = c.loop-set.set-index in
    let now = c.loop-set.lists in
    let s = c.reserve.new.self in
    record {
      length = length-set now i s ∙ c.loop-set.invariant.length;
      same = λ p. (kept (goal.at.loop-set-preserved c).After-reserve p).0;
      room = λ p. (kept (goal.at.loop-set-preserved c).After-reserve p).1;
      so_far = next_room now i c.args.bound s (omega arith) c.in_ok-reserve.ensures.ok c.loop-set.invariant.so_far;
    }

pub returns-in_err-reserve-clause-same : goal.returns-in_err-reserve-clause-same
returns-in_err-reserve-clause-same c = λ p. (kept (goal.at.returns-in_err-reserve-clause-same c).After-reserve p).0

pub returns-in_err-reserve-clause-room : goal.returns-in_err-reserve-clause-room
returns-in_err-reserve-clause-room c = λ p. (kept (goal.at.returns-in_err-reserve-clause-room c).After-reserve p).1
