-- What the moves come to, in place or on the copies, and that none of the room is lost.
use Rattle.std.proofs.Common.{ap, sym, ◌∙◌, true≢false}
use Rattle.open_graph.specs.OpenGraph.{OpenGraph}
use Rattle.zx_flow.specs.Flows.{Flow}
use Rattle.zx_flow.proofs.Answering.{from_ok, no_err}
use Rattle.zx_moves.specs.Traces.{Trace}
use Rattle.flow_rewrites.proofs.RoomKept.{room_same, copies_room, copies_made}
use Rattle.flow_rewrites.proofs.reduction.reduce_graph.Goals as goal

pub returns-then-has_room-clause-err : goal.returns-then-has_room-clause-err
returns-then-has_room-clause-err c = no_err _ c.reduce_in_place.result (c.reduce_in_place.ensures.has_room (c.has_room.ensures.value.0 c.if-has_room.true))

pub returns-then-has_room-clause-room : goal.returns-then-has_room-clause-room
returns-then-has_room-clause-room c = from_ok c.reduce_in_place.result (c.reduce_in_place.ensures.has_room (c.has_room.ensures.value.0 c.if-has_room.true)) c.reduce_in_place.ensures.room

pub returns-in_err-graph-clause-has_room : goal.returns-in_err-graph-clause-has_room
returns-in_err-graph-clause-has_room c room = absurd (true≢false (sym (c.has_room.ensures.value.1 room) ∙ c.if-has_room.false))

pub returns-in_err-flow-clause-has_room : goal.returns-in_err-flow-clause-has_room
returns-in_err-flow-clause-has_room c room = absurd (true≢false (sym (c.has_room.ensures.value.1 room) ∙ c.if-has_room.false))

pub returns-in_err-longer-clause-has_room : goal.returns-in_err-longer-clause-has_room
returns-in_err-longer-clause-has_room c room = absurd (true≢false (sym (c.has_room.ensures.value.1 room) ∙ c.if-has_room.false))

pub returns-in_err-made-clause-has_room : goal.returns-in_err-made-clause-has_room
returns-in_err-made-clause-has_room c room = absurd (true≢false (sym (c.has_room.ensures.value.1 room) ∙ c.if-has_room.false))

pub returns-in_err-made-clause-room : goal.returns-in_err-made-clause-room
returns-in_err-made-clause-room c = room_same c.args.g.now c.args.f.now c.args.trace.now

pub returns-clause-made : goal.returns-clause-made
returns-clause-made c =
    copies_made c.in_ok-graph.ensures.ok c.in_ok-longer.ensures.steps (ap (λ (h : OpenGraph). h.graph) c.swap.ensures.x_after)
    (ap (λ (k : Flow). k.flow) c.swap-2.ensures.x_after) (ap (λ (t : Trace). t.steps) c.swap-3.ensures.x_after) c.in_ok-made.ensures.made

pub returns-clause-room : goal.returns-clause-room
returns-clause-room c =
    rw (c.swap.ensures.x_after, c.swap-2.ensures.x_after, c.swap-3.ensures.x_after)
    (copies_room c.in_ok-graph.ensures.ok c.in_ok-graph.ensures.room c.in_ok-flow.ensures.flow c.in_ok-flow.ensures.room c.in_ok-longer.ensures.room
    c.in_ok-made.ensures.room)
