-- What private contracts see of a table of slots, and of the row of bits that tells which of its entries are free.
use Rattle.std.specs.Prelude.{◌≡◌, ◌≢◌, ◌<◌, ◌≤◌, ℕ, false, not, List, length, Option, Some, None}
use Rattle.std.specs.Prelude.{is_some, IsSome, slice_index_or, slice_set}
use Rattle.zx_model.specs.Bits.{bit}
use Rattle.zx_bits.specs.Rows.{BitRow}
use Rattle.open_graph.specs.declared.slot.Slot.{Slot}
use Rattle.open_graph.specs.OpenGraph.{most_vertices_in_memory}

-- what it keeps under each id from 0 on
pub record SlotTable : Type 0 where
  pub slots : List (Option Slot)

-- the slot under an id, if there is one
abbrev pub slot_at : SlotTable → ℕ → Option Slot
slot_at t id = slice_index_or t.slots id None

abbrev pub HasSlot : SlotTable → ℕ → Type 0
HasSlot t id = IsSome (slot_at t id)

-- the table with another slot under an id
abbrev pub with_slot : SlotTable → ℕ → Slot → SlotTable
with_slot t id slot = record t { slots = slice_set t.slots id (Some slot) }

-- the new table has this under the id, and all else stays
pub record Updates (old new : SlotTable) (id : ℕ) (slot : Option Slot) : Type 0 where
  pub changed : slot_at new id ≡ slot
  pub others : (other : ℕ) → other ≢ id → slot_at new other ≡ slot_at old other

-- the row has a bit for each entry at least, and set are those of the entries without a slot
pub record IsFreeRow (slots : List (Option Slot)) (free : BitRow) : Type 0 where
  pub covers : length slots ≤ length free.bits
  pub vacant : (id : ℕ) → id < length slots → bit free.bits id ≡ not (is_some (slice_index_or slots id None))
  pub none_after : (id : ℕ) → length slots ≤ id → bit free.bits id ≡ false

-- it has a row of its free entries, and no more entries than vertices may be in memory
pub record IsTable (slots : List (Option Slot)) (free : BitRow) : Type 0 where
  pub row : IsFreeRow slots free
  pub few : length slots ≤ most_vertices_in_memory
