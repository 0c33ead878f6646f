use Rattle.std.proofs.Common.{◌∙◌, ap, ◌<◌, length, length-set, Some, [], ◌∷◌, arith}
use Rattle.std.proofs.lemmas.List.{length_push}
use Rattle.open_graph.specs.Internal.Room.{vacant_in}
use Rattle.open_graph.proofs.RoomLemmas.{vacant-filled, vacant-append}
use Rattle.open_graph.proofs.TableLemmas.{row_filled, row_pushed, free_within, is_vacant, none_vacant}
use Rattle.open_graph.proofs.slot_table.SlotTable.insert.Goals as goal

pub invariant_of-self : goal.invariant_of-self
invariant_of-self c =
    let first = rw c.in-Some.is at c.bit_from.ensures in
    record {
      row = row_filled c.self.inside.entries.items c.self.inside.free c.self.invariant.row c.flip.new.self c.in-Some.id c.args.slot first.1 c.flip.ensures;
      few = rw (length-set c.self.inside.entries.items c.in-Some.id (Some c.args.slot)) c.self.invariant.few;
    }

pub invariant_of-self-in_err-push : goal.invariant_of-self-in_err-push
invariant_of-self-in_err-push c =
    rw c.in_err-push.ensures.items (record { row = c.make_room.ensures.kept c.self.inside.entries.items c.self.invariant.row; few = c.self.invariant.few })

pub invariant_of-self-2 : goal.invariant_of-self-2
invariant_of-self-2 c =
    let more : length c.self.inside.entries.items < length c.make_room.new.free.bits = omega (arith, c.in_ok-make_room.ensures.ok, c.len-id.ensures) in
    let size = length_push c.self.inside.entries.items (Some c.args.slot) in
    rw c.in_ok-push.ensures.items (record {
      row = row_pushed c.self.inside.entries.items c.make_room.new.free (c.make_room.ensures.kept c.self.inside.entries.items c.self.invariant.row) c.args.slot more;
      few = omega (arith, size, c.in_ok-make_room.ensures.few, c.len-id.ensures);
    })

pub returns-in-Some-clause-spare : goal.returns-in-Some-clause-spare
returns-in-Some-clause-spare c =
    let first = rw c.in-Some.is at c.bit_from.ensures in
    let items = c.self.inside.entries.items in
    let filled = vacant-filled items c.in-Some.id c.args.slot (free_within items c.self.inside.free c.self.invariant.row c.in-Some.id first.1) (is_vacant items c.self.inside.free c.self.invariant.row c.in-Some.id first.1) in
    let seen = ap (λ t. vacant_in t.slots) c.self.view_is in
    omega (arith, filled, seen)

pub returns-in_err-make_room-clause-has_room : goal.returns-in_err-make_room-clause-has_room
returns-in_err-make_room-clause-has_room c some =
    let none = none_vacant c.self.inside.entries.items c.self.inside.free c.self.invariant.row (λ v. c.in_default.ensures v (omega arith)) in
    let seen = ap (λ t. vacant_in t.slots) c.self.view_is in
    absurd (omega (arith, some, none, seen))

pub returns-in_err-push-clause-has_room : goal.returns-in_err-push-clause-has_room
returns-in_err-push-clause-has_room c some =
    let none = none_vacant c.self.inside.entries.items c.self.inside.free c.self.invariant.row (λ v. c.in_default.ensures v (omega arith)) in
    let seen = ap (λ t. vacant_in t.slots) c.self.view_is in
    absurd (omega (arith, some, none, seen))

pub returns-clause-spare : goal.returns-clause-spare
returns-clause-spare c =
    let none = none_vacant c.self.inside.entries.items c.self.inside.free c.self.invariant.row (λ v. c.in_default.ensures v (omega arith)) in
    let seen = ap (λ t. vacant_in t.slots) c.self.view_is in
    let more = ap vacant_in c.in_ok-push.ensures.items ∙ vacant-append c.self.inside.entries.items (Some c.args.slot ∷ []) in
    omega (arith, none, seen, more)
