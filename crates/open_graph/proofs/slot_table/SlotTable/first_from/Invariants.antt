-- No entry so far has a slot.
use Rattle.std.proofs.Common.{◌≡◌, ℕ, ◌<◌, ◌≤◌, false, is_some}
use Rattle.open_graph.specs.Internal.Table.{slot_at}
use Rattle.open_graph.proofs.slot_table.SlotTable.first_from.Given as goal

abbrev pub invariant-loop-id : goal.invariant-loop-id
invariant-loop-id l = (id : ℕ) → l.start ≤ id → id < l.id → is_some (slot_at l.self id) ≡ false
