-- Those so far are turned.
use Rattle.std.proofs.Common.{◌≡◌, ◌++◌}
use Rattle.open_graph.specs.Turns.{turned_in}
use Rattle.open_graph.specs.Internal.Room.{SameRoom}
use Rattle.open_graph.specs.Internal.Changes.{KindsChanged, powers_in}
use Rattle.open_graph.proofs.slots.turn_each.Given as goal

abbrev pub invariant-loop-p : goal.invariant-loop-p
invariant-loop-p l = record {
  all : l.yielded ++ l.p-iterator ≡ l.fn.vertices.ids;
  turned : KindsChanged (turned_in l.fn.turn l.yielded) l.fn.slots.slots l.slots.slots;
  sum : l.sum ≡ powers_in l.fn.turn l.fn.slots.slots l.yielded;
  room : SameRoom l.fn.slots.slots l.slots.slots;
}
