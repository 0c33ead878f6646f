use Rattle.std.proofs.Common.{◌≡◌, ◌≢◌, ◌+◌, ◌++◌, ℕ, None}
use Rattle.open_graph.specs.Internal.Slots.{told_at}
use Rattle.open_graph.specs.Internal.Table.{slot_at}
use Rattle.open_graph.specs.Internal.Room.{vacant_in, HasRows}
use Rattle.open_graph.specs.Internal.Changes.{RemovedFrom}
use Rattle.open_graph.proofs.slots.remove.Given as goal

abbrev pub invariant-loop-w : goal.invariant-loop-w
invariant-loop-w l = record {
  all : l.yielded ++ l.w-iterator ≡ (told_at l.fn.slots.slots l.v).row;
  gone : RemovedFrom l.fn.slots.slots l.slots.slots l.v l.yielded;
  spare : vacant_in l.slots.slots ≡ vacant_in l.fn.slots.slots + 1;
  vacant : (p : ℕ) → p ≢ l.v → slot_at l.slots p ≡ None → slot_at l.fn.slots p ≡ None;
  rows : (reach : ℕ) → HasRows reach l.fn.slots.slots → HasRows reach l.slots.slots;
}
