-- The vertices so far are gone.
use Rattle.std.proofs.Common.{◌≡◌, ◌<◌, ◌≤◌, ℕ, None}
use Rattle.open_graph.specs.Internal.Table.{slot_at}
use Rattle.open_graph.specs.Internal.Room.{vacant_in, HasRoom}
use Rattle.open_graph.proofs.slots.clear.Given as goal

abbrev pub invariant-loop-id : goal.invariant-loop-id
invariant-loop-id l = record {
  gone : (p : ℕ) → p < l.id → slot_at l.slots p ≡ None;
  others : (p : ℕ) → l.id ≤ p → slot_at l.slots p ≡ slot_at l.fn.slots p;
  spare : vacant_in l.fn.slots.slots ≤ vacant_in l.slots.slots;
  room : (reach : ℕ) → HasRoom reach l.fn.slots.slots l.fn.kept.items → HasRoom reach l.slots.slots l.kept.items;
}
