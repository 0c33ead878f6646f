use Rattle.std.proofs.Common.{◌∙◌, ap, [], ◌∷◌, None, List, Option, slice_index_or, arith}
use Rattle.open_graph.specs.declared.slot.Slot.{Slot}
use Rattle.open_graph.specs.Internal.Room.{vacant_in}
use Rattle.open_graph.proofs.RoomLemmas.{vacant-append, place_pushed}
use Rattle.open_graph.proofs.slot_table.SlotTable.reserve.Goals as goal

pub loop-added-preserved : goal.loop-added-preserved
loop-added-preserved c =
    let more = ap vacant_in c.in_ok-push_vacant.ensures.ok ∙ vacant-append c.loop-added.self.slots (None ∷ []) in
    record {
      same = λ id. ap (λ (l : List (Option Slot)). slice_index_or l id None) c.in_ok-push_vacant.ensures.ok ∙ place_pushed c.loop-added.self.slots id ∙ c.loop-added.invariant.same id;
      more = omega (arith, more, c.loop-added.invariant.more);
      keeps = omega (arith, more, c.loop-added.invariant.keeps);
    }
