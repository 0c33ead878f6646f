-- Where both have the memory, in place without copies.
use Rattle.std.proofs.Common.{sym, ◌∙◌, true≢false}
use Rattle.zx_flow.proofs.Answering.{no_err}
use Rattle.flow_rewrites.proofs.performing.perform.Goals as goal

pub returns-then-has_room_for : goal.returns-then-has_room_for
returns-then-has_room_for c = record {
  safely = record {
    ok = c.in_place.ensures.done;
    err = no_err _ c.in_place.result (c.in_place.ensures.has_room (c.has_room_for.ensures.value.0 c.if-has_room_for.true));
    has_room = c.in_place.ensures.has_room;
    valid = c.in_place.ensures.valid;
  };
}

pub returns : goal.returns
returns c = record {
  safely = record {
    ok = c.with_copies.ensures.done;
    err = c.with_copies.ensures.undone;
    has_room = λ room. absurd (true≢false (sym (c.has_room_for.ensures.value.1 room) ∙ c.if-has_room_for.false));
    valid = c.with_copies.ensures.valid;
  };
}
