-- One row more is toggled.
use Rattle.std.proofs.Common.{subst, IsOk}
use Rattle.std.proofs.lemmas.Bool.{false≢true}
use Rattle.open_graph.proofs.ReachLemmas.{keeps_then}
use Rattle.zx_model.specs.Bits.{member}
use Rattle.zx_calculus.proofs.Ids.{Distinct-rising}
use Rattle.open_graph.proofs.Walks.{next_some, next_there, next_all, member-toggled}
use Rattle.open_graph.proofs.RowToggles.{still_there, rows_next}
use Rattle.open_graph.proofs.slots.toggle_rows.Goals as goal

pub toggle_row-requires-clause-live : goal.toggle_row-requires-clause-live
toggle_row-requires-clause-live c =
    still_there c.args.slots.now.slots c.loop-u.slots.slots _ c.in-Some.u c.loop-u.invariant.toggled
    (c.requires.live c.in-Some.u (next_there c.loop-u.yielded c.loop-u.u-iterator c.next.new.self c.args.vertices.now.ids c.in-Some.u c.loop-u.invariant.all
    (next_some c.next.result c.loop-u.u-iterator c.next.new.self c.in-Some.u c.next.ensures.steps c.in-Some.is)))

pub toggle_row-requires-clause-others_live : goal.toggle_row-requires-clause-others_live
toggle_row-requires-clause-others_live c q there =
    still_there c.args.slots.now.slots c.loop-u.slots.slots _ q c.loop-u.invariant.toggled (c.requires.others_live q there)

pub loop-u-preserved : goal.loop-u-preserved
loop-u-preserved c =
    let more = next_some c.next.result c.loop-u.u-iterator c.next.new.self c.in-Some.u c.next.ensures.steps c.in-Some.is in
    record {
      all = next_all c.loop-u.yielded c.loop-u.u-iterator c.next.new.self c.args.vertices.now.ids c.in-Some.u c.loop-u.invariant.all more;
      toggled = rows_next c.args.slots.now.slots c.loop-u.slots.slots c.toggle_row.new.slots.slots _ _ (λ p q. member q c.args.others.now.ids) c.in-Some.u
          (λ p. member-toggled c.loop-u.yielded c.loop-u.u-iterator c.next.new.self c.args.vertices.now.ids c.in-Some.u p
          (Distinct-rising c.args.vertices.now.ids c.iter-u-items.ensures.rising) c.loop-u.invariant.all more)
          c.loop-u.invariant.toggled c.in_ok-toggle_row.ensures.toggled;
      room = keeps_then c.args.reach c.args.slots.now.slots c.loop-u.slots.slots c.toggle_row.new.slots.slots c.loop-u.invariant.room c.toggle_row.ensures.room;
    }

pub returns-in_err-toggle_row-clause-has_room : goal.returns-in_err-toggle_row-clause-has_room
returns-in_err-toggle_row-clause-has_room c rows below others_below =
    let there = next_there c.loop-u.yielded c.loop-u.u-iterator c.next.new.self c.args.vertices.now.ids c.in-Some.u c.loop-u.invariant.all
    (next_some c.next.result c.loop-u.u-iterator c.next.new.self c.in-Some.u c.next.ensures.steps c.in-Some.is) in
    let fits = c.toggle_row.ensures.has_room (c.loop-u.invariant.room.rows rows) (below c.in-Some.u there) others_below in
    absurd (false≢true (subst IsOk c.in_err-toggle_row.was fits))
