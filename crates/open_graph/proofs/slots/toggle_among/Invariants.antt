-- The rows so far are toggled.
use Rattle.std.proofs.Common.{◌≡◌, ◌++◌, ◌&&◌, eqb}
use Rattle.zx_model.specs.Bits.{xor, member}
use Rattle.open_graph.specs.Internal.Room.{KeepsRoom}
use Rattle.open_graph.specs.Internal.Changes.{RowsToggled}
use Rattle.open_graph.proofs.slots.toggle_among.Given as goal

abbrev pub invariant-loop-p : goal.invariant-loop-p
invariant-loop-p l = record {
  all : l.yielded ++ l.p-iterator ≡ l.near.ids;
  toggled : RowsToggled l.initial.slots.slots l.slots.slots (λ p q. member p l.yielded && xor (member q l.near.ids) (eqb q p));
  room : KeepsRoom l.reach l.initial.slots.slots l.slots.slots;
}
