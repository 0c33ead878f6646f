use Rattle.std.proofs.Common.{◌≡◌, ◌∙◌, sym, ap, subst, IsOk, true, false}
use Rattle.std.proofs.lemmas.Bool.{false≢true}
use Rattle.zx_model.specs.Bits.{member}
use Rattle.open_graph.specs.Internal.Slots.{told_at, adjacent}
use Rattle.open_graph.proofs.RowLemmas.{removed_toggles, inserted_toggles}
use Rattle.open_graph.proofs.ReachLemmas.{keeps_then}
use Rattle.open_graph.proofs.Keeping.{keeps_toggled, same_back, puts_other}
use Rattle.open_graph.proofs.slots.toggle.Goals as goal

pub returns-then-joins-clause-ok : goal.returns-then-joins-clause-ok
returns-then-joins-clause-ok c =
    let there : adjacent c.args.slots.now.slots c.args.u c.args.v ≡ true = sym c.joins.ensures ∙ c.if-joins.true in
    let back : adjacent c.remove_neighbour.new.slots.slots c.args.v c.args.u ≡ true =
    ap (λ t. member c.args.u t.row) (puts_other c.args.slots.now.slots c.remove_neighbour.new.slots.slots c.args.u _ c.args.v c.remove_neighbour.ensures.puts (λ e. c.requires.different (sym e)))
    ∙ sym c.requires.symmetric ∙ there in
    keeps_toggled c.args.slots.now.slots c.remove_neighbour.new.slots.slots c.remove_neighbour-then-joins.new.slots.slots c.args.u c.args.v _ _ c.requires.different
    c.remove_neighbour.ensures.puts c.remove_neighbour-then-joins.ensures.puts
    (removed_toggles c.args.v (told_at c.args.slots.now.slots c.args.u).row there)
    (removed_toggles c.args.u (told_at c.remove_neighbour.new.slots.slots c.args.v).row back)

pub returns-in-Err-clause-err : goal.returns-in-Err-clause-err
returns-in-Err-clause-err c =
    same_back c.args.slots.now.slots c.add_neighbour.new.slots.slots c.add_neighbour-2.new.slots.slots c.remove_neighbour-in-Err.new.slots.slots c.args.u c.args.v
    (sym c.joins.ensures ∙ c.if-joins.false) c.in_ok-add_neighbour.ensures.ok c.in-Err.ensures.err c.remove_neighbour-in-Err.ensures.puts

pub returns-clause-ok : goal.returns-clause-ok
returns-clause-ok c =
    let absent : adjacent c.args.slots.now.slots c.args.u c.args.v ≡ false = sym c.joins.ensures ∙ c.if-joins.false in
    let back : adjacent c.add_neighbour.new.slots.slots c.args.v c.args.u ≡ false =
    ap (λ t. member c.args.u t.row) (puts_other c.args.slots.now.slots c.add_neighbour.new.slots.slots c.args.u _ c.args.v c.in_ok-add_neighbour.ensures.ok (λ e. c.requires.different (sym e)))
    ∙ sym c.requires.symmetric ∙ absent in
    keeps_toggled c.args.slots.now.slots c.add_neighbour.new.slots.slots c.add_neighbour-2.new.slots.slots c.args.u c.args.v _ _ c.requires.different
    c.in_ok-add_neighbour.ensures.ok c.in_default.ensures.ok
    (inserted_toggles c.args.v (told_at c.args.slots.now.slots c.args.u).row absent)
    (inserted_toggles c.args.u (told_at c.add_neighbour.new.slots.slots c.args.v).row back)

pub returns-then-joins-clause-room : goal.returns-then-joins-clause-room
returns-then-joins-clause-room c =
    keeps_then c.args.reach c.args.slots.now.slots c.remove_neighbour.new.slots.slots c.remove_neighbour-then-joins.new.slots.slots
    (c.remove_neighbour.ensures.room c.args.reach) (c.remove_neighbour-then-joins.ensures.room c.args.reach)

pub returns-in-Err-clause-room : goal.returns-in-Err-clause-room
returns-in-Err-clause-room c =
    keeps_then c.args.reach c.args.slots.now.slots c.add_neighbour-2.new.slots.slots c.remove_neighbour-in-Err.new.slots.slots
    (keeps_then c.args.reach c.args.slots.now.slots c.add_neighbour.new.slots.slots c.add_neighbour-2.new.slots.slots c.add_neighbour.ensures.room c.add_neighbour-2.ensures.room)
    (c.remove_neighbour-in-Err.ensures.room c.args.reach)

pub returns-clause-room : goal.returns-clause-room
returns-clause-room c =
    keeps_then c.args.reach c.args.slots.now.slots c.add_neighbour.new.slots.slots c.add_neighbour-2.new.slots.slots c.add_neighbour.ensures.room c.add_neighbour-2.ensures.room

pub returns-in_err-add_neighbour-clause-has_room : goal.returns-in_err-add_neighbour-clause-has_room
returns-in_err-add_neighbour-clause-has_room c rows u_below v_below =
    absurd (false≢true (subst IsOk c.in_err-add_neighbour.was (c.add_neighbour.ensures.has_room rows u_below v_below)))

pub returns-in-Err-clause-has_room : goal.returns-in-Err-clause-has_room
returns-in-Err-clause-has_room c rows u_below v_below =
    absurd (false≢true (subst IsOk c.in-Err.is (c.add_neighbour-2.ensures.has_room (c.add_neighbour.ensures.room.rows rows) v_below u_below)))
