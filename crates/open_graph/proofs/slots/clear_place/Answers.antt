use Rattle.std.proofs.Common.{◌∙◌, ◌<◌, ◌≤◌, ℕ, length, ap, subst, sym, IsSome, rules, arith}
use Rattle.open_graph.specs.Internal.Room.{room_by, row_kept}
use Rattle.open_graph.proofs.ReachLemmas.{room_removed}
use Rattle.open_graph.proofs.slots.clear_place.Goals as goal

pub returns-then-contains-clause-room : goal.returns-then-contains-clause-room
returns-then-contains-clause-room c reach =
    let row = ap room_by c.remove-row.ensures.value in
    room_removed reach c.args.slots.now.slots c.remove-row.new.self.slots c.args.kept.now.items c.keep_row.new.kept.items c.args.id
    (search rules)
    (λ rows p apart lt there.
    let is = ap room_by (c.remove-row.ensures.updates.others p apart) in
    let le = rows p lt (subst IsSome (c.remove-row.ensures.updates.others p apart) there) in
    omega (arith, is, le))
    (λ p apart none. sym (c.remove-row.ensures.updates.others p apart) ∙ none)
    c.remove-row.ensures.updates.changed
    (λ lt.
    let le = subst (λ (v : ℕ). v < length c.args.kept.now.items → c.remove-row.result.row.room ≤ (row_kept c.keep_row.new.kept.items v).room) c.new.ensures c.keep_row.ensures.room lt in
    omega (arith, le, row))
    (λ p apart. c.keep_row.ensures.others p (λ e. apart (e ∙ c.new.ensures))) c.keep_row.ensures.covers c.keep_row.ensures.empty
