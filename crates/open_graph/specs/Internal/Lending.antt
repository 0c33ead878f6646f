-- What an entry and a table of slots end as, where a `&mut` to a slot is returned.
use Rattle.std.specs.Prelude.{ℕ, Option, Some}
use Rattle.std.specs.Borrow.{Lends, MutBor, Fml}
use Rattle.std.specs.contracts.option.Option.{the_row as option_row}
use Rattle.open_graph.specs.declared.slot.Slot.{Slot}
use Rattle.open_graph.specs.contracts.slot.Slot.{the_row as slot_row}
use Rattle.open_graph.specs.contracts.slot_table.SlotTable.{the_row as table_row}
use Rattle.open_graph.specs.Internal.Table.{SlotTable, with_slot}

-- the entry ends with the last slot behind the result
abbrev pub LendsEntry : MutBor (Option Slot) → MutBor Slot → Fml
LendsEntry entry slot = Lends (option_row slot_row) slot_row entry slot (λ s. Some s)

-- the table ends with it under the id
abbrev pub LendsSlot : MutBor SlotTable → ℕ → MutBor Slot → Fml
LendsSlot table id slot = Lends table_row slot_row table slot (with_slot table.now id)
