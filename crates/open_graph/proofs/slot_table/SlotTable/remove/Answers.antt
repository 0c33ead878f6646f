-- The bit of the entry is set.
use Rattle.std.proofs.Common.{◌∙◌, ◌+◌, ap, length-set, None}
use Rattle.open_graph.specs.Internal.Room.{vacant_in}
use Rattle.open_graph.proofs.RoomLemmas.{vacant-emptied}
use Rattle.open_graph.proofs.TableLemmas.{row_emptied}
use Rattle.open_graph.proofs.slot_table.SlotTable.remove.Goals as goal

pub invariant_of-self : goal.invariant_of-self
invariant_of-self c =
    rw c.take.ensures.after (record {
      row = row_emptied c.self.inside.entries.items c.self.inside.free c.self.invariant.row c.args.id (rw (← c.self.view_is) at c.requires) c.flip.new.self
          c.flip.ensures;
      few = rw (length-set c.self.inside.entries.items c.args.id None) c.self.invariant.few;
    })

pub returns-clause-spare : goal.returns-clause-spare
returns-clause-spare c =
    rw c.take.ensures.after
    (vacant-emptied c.self.inside.entries.items c.args.id (rw (← c.self.view_is) at c.requires) ∙ ap (λ t. vacant_in t.slots + 1) c.self.view_is)
