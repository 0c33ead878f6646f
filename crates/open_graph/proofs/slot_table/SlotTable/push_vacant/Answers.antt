use Rattle.std.proofs.Common.{◌≡◌, ◌∙◌, ap, ◌<◌, length, None, arith}
use Rattle.std.proofs.lemmas.List.{length_push}
use Rattle.zx_bits.specs.Rows.{flipped}
use Rattle.open_graph.proofs.TableLemmas.{row_pushed_none}
use Rattle.open_graph.proofs.slot_table.SlotTable.push_vacant.Goals as goal

pub invariant_of-self-2 : goal.invariant_of-self-2
invariant_of-self-2 c =
    let more : length c.self.inside.entries.items < length c.make_room.new.free.bits = omega (arith, c.in_ok-make_room.ensures.ok, c.len-id.ensures) in
    let at : c.len-id.result ≡ length c.self.inside.entries.items = omega (arith, c.len-id.ensures) in
    let size = length_push c.self.inside.entries.items None in
    rw c.in_ok-push.ensures.items (record {
      row = row_pushed_none c.self.inside.entries.items c.make_room.new.free (c.make_room.ensures.kept c.self.inside.entries.items c.self.invariant.row) c.flip.new.self more
          (c.flip.ensures ∙ ap (flipped c.make_room.new.free.bits) at);
      few = omega (arith, size, c.in_ok-make_room.ensures.few, at);
    })
