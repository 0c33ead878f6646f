-- One row more is toggled, and what stands there itself is taken out.
use Rattle.std.proofs.Common.{subst, IsOk, eqb}
use Rattle.std.proofs.lemmas.Bool.{false≢true}
use Rattle.open_graph.proofs.ReachLemmas.{keeps_then}
use Rattle.zx_model.specs.Bits.{xor, member}
use Rattle.zx_calculus.proofs.Ids.{Distinct-rising}
use Rattle.open_graph.proofs.Walks.{next_some, next_there, next_all, member-toggled}
use Rattle.open_graph.proofs.RowToggles.{still_there, rows_next, row_and_itself}
use Rattle.open_graph.proofs.slots.toggle_among.Goals as goal

pub toggle_row-requires-clause-live : goal.toggle_row-requires-clause-live
toggle_row-requires-clause-live c =
    still_there c.args.slots.now.slots c.loop-p.slots.slots _ c.in-Some.p c.loop-p.invariant.toggled
    (c.requires c.in-Some.p (next_there c.loop-p.yielded c.loop-p.p-iterator c.next.new.self c.args.near.now.ids c.in-Some.p c.loop-p.invariant.all
    (next_some c.next.result c.loop-p.p-iterator c.next.new.self c.in-Some.p c.next.ensures.steps c.in-Some.is)))

pub toggle_row-requires-clause-others_live : goal.toggle_row-requires-clause-others_live
toggle_row-requires-clause-others_live c q there =
    still_there c.args.slots.now.slots c.loop-p.slots.slots _ q c.loop-p.invariant.toggled (c.requires q there)

pub toggle_itself-requires : goal.toggle_itself-requires
toggle_itself-requires c =
    still_there c.loop-p.slots.slots c.toggle_row.new.slots.slots _ c.in-Some.p c.in_ok-toggle_row.ensures.toggled
    (still_there c.args.slots.now.slots c.loop-p.slots.slots _ c.in-Some.p c.loop-p.invariant.toggled
    (c.requires c.in-Some.p (next_there c.loop-p.yielded c.loop-p.p-iterator c.next.new.self c.args.near.now.ids c.in-Some.p c.loop-p.invariant.all
    (next_some c.next.result c.loop-p.p-iterator c.next.new.self c.in-Some.p c.next.ensures.steps c.in-Some.is))))

pub loop-p-preserved : goal.loop-p-preserved
loop-p-preserved c =
    let more = next_some c.next.result c.loop-p.p-iterator c.next.new.self c.in-Some.p c.next.ensures.steps c.in-Some.is in
    record {
      all = next_all c.loop-p.yielded c.loop-p.p-iterator c.next.new.self c.args.near.now.ids c.in-Some.p c.loop-p.invariant.all more;
      toggled = rows_next c.args.slots.now.slots c.loop-p.slots.slots c.toggle_itself.new.slots.slots _ _ (λ p q. xor (member q c.args.near.now.ids) (eqb q p)) c.in-Some.p
          (λ p. member-toggled c.loop-p.yielded c.loop-p.p-iterator c.next.new.self c.args.near.now.ids c.in-Some.p p
          (Distinct-rising c.args.near.now.ids c.iter-p-items.ensures.rising) c.loop-p.invariant.all more)
          c.loop-p.invariant.toggled
          (row_and_itself c.loop-p.slots.slots c.toggle_row.new.slots.slots c.toggle_itself.new.slots.slots c.args.near.now.ids c.in-Some.p
          c.in_ok-toggle_row.ensures.toggled c.in_ok-toggle_itself.ensures.toggled);
      room = keeps_then c.args.reach c.args.slots.now.slots c.toggle_row.new.slots.slots c.toggle_itself.new.slots.slots
          (keeps_then c.args.reach c.args.slots.now.slots c.loop-p.slots.slots c.toggle_row.new.slots.slots c.loop-p.invariant.room c.toggle_row.ensures.room)
          (c.toggle_itself.ensures.room c.args.reach);
    }

pub returns-in_err-toggle_row-clause-has_room : goal.returns-in_err-toggle_row-clause-has_room
returns-in_err-toggle_row-clause-has_room c rows below =
    let there = next_there c.loop-p.yielded c.loop-p.p-iterator c.next.new.self c.args.near.now.ids c.in-Some.p c.loop-p.invariant.all
    (next_some c.next.result c.loop-p.p-iterator c.next.new.self c.in-Some.p c.next.ensures.steps c.in-Some.is) in
    let fits = c.toggle_row.ensures.has_room (c.loop-p.invariant.room.rows rows) (below c.in-Some.p there) below in
    absurd (false≢true (subst IsOk c.in_err-toggle_row.was fits))

pub returns-in_err-toggle_itself-clause-has_room : goal.returns-in_err-toggle_itself-clause-has_room
returns-in_err-toggle_itself-clause-has_room c rows below =
    let there = next_there c.loop-p.yielded c.loop-p.p-iterator c.next.new.self c.args.near.now.ids c.in-Some.p c.loop-p.invariant.all
    (next_some c.next.result c.loop-p.p-iterator c.next.new.self c.in-Some.p c.next.ensures.steps c.in-Some.is) in
    let fits = c.toggle_itself.ensures.has_room c.args.reach (c.toggle_row.ensures.room.rows (c.loop-p.invariant.room.rows rows)) (below c.in-Some.p there) in
    absurd (false≢true (subst IsOk c.in_err-toggle_itself.was fits))

pub returns-in_err-toggle_itself-clause-room : goal.returns-in_err-toggle_itself-clause-room
returns-in_err-toggle_itself-clause-room c =
    keeps_then c.args.reach c.args.slots.now.slots c.toggle_row.new.slots.slots c.toggle_itself.new.slots.slots
    (keeps_then c.args.reach c.args.slots.now.slots c.loop-p.slots.slots c.toggle_row.new.slots.slots c.loop-p.invariant.room c.toggle_row.ensures.room)
    (c.toggle_itself.ensures.room c.args.reach)
