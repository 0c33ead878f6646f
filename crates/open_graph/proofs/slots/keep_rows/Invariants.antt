-- Rows are put behind those kept so far.
use Rattle.std.proofs.Common.{◌≡◌, ◌<◌, ◌≤◌, ℕ, length}
use Rattle.open_graph.specs.Internal.Room.{row_kept, AreEmpty}
use Rattle.open_graph.proofs.slots.keep_rows.Given as goal

abbrev pub invariant-loop-added : goal.invariant-loop-added
invariant-loop-added l = record {
  same : (p : ℕ) → p < length l.fn.kept.items → row_kept l.kept.items p ≡ row_kept l.fn.kept.items p;
  longer : length l.fn.kept.items ≤ length l.kept.items;
  empty : AreEmpty l.fn.kept.items → AreEmpty l.kept.items;
  more : l._added ≤ length l.kept.items;
}
