use Rattle.std.proofs.Common.{◌≡◌, ◌∙◌, ap, subst, ℕ, None, slice_index_or, true, ◌++◌, ◌∷◌, [], arith}
use Rattle.open_graph.specs.Internal.Room.{room_by}
use Rattle.open_graph.specs.Internal.Slots.{told_at, adjacent}
use Rattle.open_graph.proofs.Walks.{next_some, next_there, next_all, member-more}
use Rattle.open_graph.proofs.Removing.{removed_next, neighbour_apart, neighbour_contained}
use Rattle.open_graph.proofs.ReachLemmas.{gone, room_removed}
use Rattle.open_graph.proofs.slots.remove.Goals as goal

pub remove_neighbour-requires : goal.remove_neighbour-requires
remove_neighbour-requires c =
    let row = (told_at c.args.slots.now.slots c.args.v).row in
    let near : adjacent c.args.slots.now.slots c.args.v c.in-Some.w ≡ true =
    next_there c.loop-w.yielded c.loop-w.w-iterator c.next.new.self row c.in-Some.w c.loop-w.invariant.all
    (next_some c.next.result c.loop-w.w-iterator c.next.new.self c.in-Some.w c.next.ensures.steps c.in-Some.is) in
    neighbour_contained c.args.slots.now.slots c.args.v c.requires.symmetric c.requires.no_loop c.loop-w.slots.slots c.in-Some.w c.loop-w.yielded c.loop-w.invariant.gone near

pub loop-w-preserved : goal.loop-w-preserved
loop-w-preserved c =
    let row = (told_at c.args.slots.now.slots c.args.v).row in
    let more = next_some c.next.result c.loop-w.w-iterator c.next.new.self c.in-Some.w c.next.ensures.steps c.in-Some.is in
    let near : adjacent c.args.slots.now.slots c.args.v c.in-Some.w ≡ true =
    next_there c.loop-w.yielded c.loop-w.w-iterator c.next.new.self row c.in-Some.w c.loop-w.invariant.all more in
    record {
      all = next_all c.loop-w.yielded c.loop-w.w-iterator c.next.new.self row c.in-Some.w c.loop-w.invariant.all more;
      gone = removed_next c.args.slots.now.slots c.loop-w.slots.slots c.remove_neighbour.new.slots.slots c.args.v c.in-Some.w c.loop-w.yielded (c.loop-w.yielded ++ c.in-Some.w ∷ [])
          (neighbour_apart c.args.slots.now.slots c.args.v c.requires.symmetric c.requires.no_loop c.in-Some.w near)
          (member-more c.loop-w.yielded c.in-Some.w)
          c.loop-w.invariant.gone c.remove_neighbour.ensures.puts;
      spare = (c.remove_neighbour.ensures.room 0).spare ∙ c.loop-w.invariant.spare;
      vacant = λ p apart none. c.loop-w.invariant.vacant p apart ((c.remove_neighbour.ensures.room 0).vacant p none);
      rows = λ reach rows. (c.remove_neighbour.ensures.room reach).rows (c.loop-w.invariant.rows reach rows);
    }

pub returns-clause-room : goal.returns-clause-room
returns-clause-room c reach =
    let row = subst (λ (v : ℕ). room_by (slice_index_or c.args.slots.now.slots v None) ≡ c.remove.result.row.room) c.get.ensures (ap room_by c.remove.ensures.value) in
    room_removed reach c.args.slots.now.slots c.loop-w.slots.slots c.args.kept.now.items c.keep_row.new.kept.items c.args.v
    c.requires.live
    (λ rows p apart lt there. c.loop-w.invariant.rows reach rows p lt there)
    c.loop-w.invariant.vacant
    (gone c.args.slots.now.slots c.loop-w.slots.slots c.args.v c.loop-w.yielded c.loop-w.invariant.gone)
    (λ lt. let le = c.keep_row.ensures.room lt in omega (arith, le, row)) c.keep_row.ensures.others c.keep_row.ensures.covers c.keep_row.ensures.empty
