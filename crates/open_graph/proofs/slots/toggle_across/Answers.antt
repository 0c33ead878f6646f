-- Both sides toggle what stands across.
use Rattle.std.proofs.Common.{ap, subst, IsOk, ◌&&◌}
use Rattle.std.proofs.lemmas.Bool.{false≢true}
use Rattle.open_graph.proofs.ReachLemmas.{keeps_then}
use Rattle.zx_model.specs.Bits.{xor, member}
use Rattle.zx_calculus.proofs.Booleans.{and_comm}
use Rattle.zx_calculus.proofs.Positions.{on_ok}
use Rattle.zx_calculus.specs.Toggles.{across}
use Rattle.open_graph.proofs.RowToggles.{rows_then}
use Rattle.open_graph.proofs.slots.toggle_across.Goals as goal

pub returns-in_err-toggle_rows-clause-has_room : goal.returns-in_err-toggle_rows-clause-has_room
returns-in_err-toggle_rows-clause-has_room c rows left right =
    absurd (false≢true (subst IsOk c.in_err-toggle_rows.was (c.toggle_rows.ensures.has_room rows left right)))

pub returns : goal.returns
returns c = record {
  toggled = on_ok c.toggle_rows-2.result
      (λ back. rows_then c.args.slots.now.slots c.toggle_rows.new.slots.slots c.toggle_rows-2.new.slots.slots _ _ (across c.args.left.now.ids c.args.right.now.ids)
      c.in_ok-toggle_rows.ensures.toggled back
      (λ p q. ap (xor (member p c.args.left.now.ids && member q c.args.right.now.ids)) (and_comm (member p c.args.right.now.ids) (member q c.args.left.now.ids))))
      c.toggle_rows-2.ensures.toggled;
  room = keeps_then c.args.reach c.args.slots.now.slots c.toggle_rows.new.slots.slots c.toggle_rows-2.new.slots.slots c.toggle_rows.ensures.room c.toggle_rows-2.ensures.room;
  has_room = λ rows left right. c.toggle_rows-2.ensures.has_room (c.toggle_rows.ensures.room.rows rows) right left;
}
