use Rattle.std.proofs.Common.{◌≡◌, ◌≤◌, ◌+◌, drop}
use Rattle.open_graph.specs.Internal.Room.{vacant_in}
use Rattle.open_graph.proofs.slot_table.SlotTable.vacant.Given as goal

abbrev pub invariant-loop-entry : goal.invariant-loop-entry
invariant-loop-entry l = record {
  within : l.vacant ≤ l.entry-index;
  all : l.vacant + vacant_in (drop l.entry-index l.self.slots) ≡ vacant_in l.self.slots;
}
