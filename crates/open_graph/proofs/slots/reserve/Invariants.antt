-- The rows so far have their room.
use Rattle.std.proofs.Common.{◌≡◌, ◌<◌, ◌≤◌, ℕ, length}
use Rattle.open_graph.specs.Internal.Room.{vacant_in, room_at, AreEmpty}
use Rattle.open_graph.specs.Internal.Changes.{SameTold}
use Rattle.open_graph.proofs.slots.reserve.Given as goal

abbrev pub invariant-loop-id : goal.invariant-loop-id
invariant-loop-id l = record {
  same : SameTold l.fn.slots.slots l.slots.slots;
  spare : vacant_in l.slots.slots ≡ vacant_in l.fn.slots.slots;
  grown : (p : ℕ) → p < length l.fn.kept.items → room_at l.fn.slots.slots l.fn.kept.items p ≤ room_at l.slots.slots l.kept.items p;
  longer : length l.fn.kept.items ≤ length l.kept.items;
  covers : l.bound ≤ length l.kept.items;
  empty : AreEmpty l.kept.items;
  done : (p : ℕ) → p < l.id → l.bound ≤ room_at l.slots.slots l.kept.items p;
}
