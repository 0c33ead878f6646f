use Rattle.std.proofs.Common.{◌∙◌, ap, length, List, Option}
use Rattle.open_graph.specs.declared.slot.Slot.{Slot}
use Rattle.open_graph.specs.Internal.Changes.{SameTold}
use Rattle.open_graph.specs.Internal.Room.{vacant_in}
use Rattle.open_graph.specs.Internal.Slots.{told_at}
use Rattle.open_graph.proofs.CopyLemmas.{vacant_copied}
use Rattle.open_graph.proofs.TableLemmas.{row_same}
use Rattle.open_graph.proofs.slot_table.SlotTableClone.clone.Goals as goal

pub invariant_of-result : goal.invariant_of-result
invariant_of-result c =
    let size = c.in_ok-copy_entries.ensures.len ∙ ap length c.deref.ensures.value in
    record {
      row = row_same c.self.inside.entries.items c.in_ok-copy_entries.field-0.items c.self.inside.free c.in_ok-free.free c.self.invariant.row
          size (λ p. c.in_ok-copy_entries.ensures.same p ∙ ap (λ (l : List (Option Slot)). told_at l p) c.deref.ensures.value)
          c.in_ok-free.ensures.cases;
      few = rw size c.self.invariant.few;
    }

pub returns : goal.returns
returns c =
    let same : SameTold c.self.inside.entries.items c.in_ok-copy_entries.field-0.items =
    λ p. c.in_ok-copy_entries.ensures.same p ∙ ap (λ (l : List (Option Slot)). told_at l p) c.deref.ensures.value in
    record {
      cases = (
        λ p. same p ∙ ap (λ t. told_at t.slots p) c.self.view_is,
        vacant_copied c.self.inside.entries.items c.in_ok-copy_entries.field-0.items
            (c.in_ok-copy_entries.ensures.len ∙ ap length c.deref.ensures.value) same
            ∙ ap (λ t. vacant_in t.slots) c.self.view_is,
      );
    }
