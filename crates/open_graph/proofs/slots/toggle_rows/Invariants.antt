-- The rows so far are toggled.
use Rattle.std.proofs.Common.{◌≡◌, ◌++◌, ◌&&◌}
use Rattle.zx_model.specs.Bits.{member}
use Rattle.open_graph.specs.Internal.Room.{KeepsRoom}
use Rattle.open_graph.specs.Internal.Changes.{RowsToggled}
use Rattle.open_graph.proofs.slots.toggle_rows.Given as goal

abbrev pub invariant-loop-u : goal.invariant-loop-u
invariant-loop-u l = record {
  all : l.yielded ++ l.u-iterator ≡ l.vertices.ids;
  toggled : RowsToggled l.initial.slots.slots l.slots.slots (λ p q. member p l.yielded && member q l.others.ids);
  room : KeepsRoom l.reach l.initial.slots.slots l.slots.slots;
}
