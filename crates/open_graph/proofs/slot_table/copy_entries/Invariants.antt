use Rattle.std.proofs.Common.{◌≡◌, ◌<◌, ℕ, length}
use Rattle.open_graph.specs.Internal.Slots.{told_at}
use Rattle.open_graph.proofs.slot_table.copy_entries.Given as goal

abbrev pub invariant-loop-entry : goal.invariant-loop-entry
invariant-loop-entry l = record {
  size : length l.copies.items ≡ l.entry-index;
  same : (p : ℕ) → p < l.entry-index → told_at l.copies.items p ≡ told_at l.entries p;
}
