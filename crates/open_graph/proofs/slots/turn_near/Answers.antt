-- The row is taken out while its vertices turn.
use Rattle.std.proofs.Common.{sym, ◌∙◌, ap, subst, ltb, ℕ, List}
use Rattle.zx_model.specs.Bits.{member}
use Rattle.zx_calculus.specs.Graph.{in_order}
use Rattle.open_graph.specs.Turns.{turned_in}
use Rattle.open_graph.specs.Internal.Slots.{told_at}
use Rattle.open_graph.specs.Internal.Changes.{KindsChanged}
use Rattle.open_graph.proofs.Turning.{turned_there, turned_keeps, taken_there, taken_powers, turned_back, room_back}
use Rattle.open_graph.proofs.slots.turn_near.Goals as goal

pub turn_each-power-requires : goal.turn_each-power-requires
turn_each-power-requires c p there =
    taken_there c.args.slots.now.slots c.take_row-row.new.slots.slots c.args.u c.take_row-row.ensures.taken p
    (c.requires.near_live p (ap (member p) (sym c.take_row-row.ensures.row) ∙ there))

pub put_row-requires : goal.put_row-requires
put_row-requires c =
    turned_there (turned_in c.args.turn c.take_row-row.result.ids) c.take_row-row.new.slots.slots c.turn_each-power.new.slots.slots
    c.turn_each-power.ensures.turned c.args.u
    (taken_there c.args.slots.now.slots c.take_row-row.new.slots.slots c.args.u c.take_row-row.ensures.taken c.args.u c.requires.live)

pub returns-clause-turned : goal.returns-clause-turned
returns-clause-turned c =
    turned_back c.args.slots.now.slots c.take_row-row.new.slots.slots c.args.u c.take_row-row.ensures.taken
    (turned_in c.args.turn (told_at c.args.slots.now.slots c.args.u).row)
    c.turn_each-power.new.slots.slots c.put_row.new.slots.slots c.take_row-row.result.ids c.take_row-row.ensures.row
    (subst (λ (row : List ℕ). KindsChanged (turned_in c.args.turn row) c.take_row-row.new.slots.slots c.turn_each-power.new.slots.slots)
    c.take_row-row.ensures.row c.turn_each-power.ensures.turned)
    c.put_row.ensures.put

pub returns-clause-power : goal.returns-clause-power
returns-clause-power c =
    c.turn_each-power.ensures.power
    ∙ taken_powers c.args.slots.now.slots c.take_row-row.new.slots.slots c.args.u c.take_row-row.ensures.taken c.args.turn
    c.take_row-row.result.ids c.take_row-row.ensures.row

pub returns-clause-rising : goal.returns-clause-rising
returns-clause-rising c = ap (in_order ltb) (sym c.take_row-row.ensures.row) ∙ c.turn_each-power.ensures.rising

pub returns-clause-room : goal.returns-clause-room
returns-clause-room c reach =
    turned_keeps (turned_in c.args.turn (told_at c.args.slots.now.slots c.args.u).row) c.args.slots.now.slots c.put_row.new.slots.slots
    (returns-clause-turned c) reach
    (record {
      spare = c.put_row.ensures.spare ∙ c.turn_each-power.ensures.room.spare ∙ c.take_row-row.ensures.spare;
      rows = room_back c.args.slots.now.slots c.take_row-row.new.slots.slots c.turn_each-power.new.slots.slots c.put_row.new.slots.slots
          c.args.u c.take_row-row.result.room c.take_row-row.ensures.room c.take_row-row.ensures.others
          c.turn_each-power.ensures.room.rows c.put_row.ensures.room c.put_row.ensures.others;
    })
