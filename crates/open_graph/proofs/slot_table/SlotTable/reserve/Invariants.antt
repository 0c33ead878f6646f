use Rattle.std.proofs.Common.{◌≡◌, ◌≤◌, ℕ}
use Rattle.open_graph.specs.Internal.Table.{slot_at}
use Rattle.open_graph.specs.Internal.Room.{vacant_in}
use Rattle.open_graph.proofs.slot_table.SlotTable.reserve.Given as goal

abbrev pub invariant-loop-added : goal.invariant-loop-added
invariant-loop-added l = record {
  same : (id : ℕ) → slot_at l.self id ≡ slot_at l.fn.self id;
  more : l._added ≤ vacant_in l.self.slots;
  keeps : vacant_in l.fn.self.slots ≤ vacant_in l.self.slots;
}
