use Rattle.std.proofs.Common.{◌≡◌, ◌∙◌, ◌+◌, sym, ap, slice_index_or, None, arith}
use Rattle.std.proofs.lemmas.List.{length_push, get_or_default}
use Rattle.open_graph.proofs.SlotLemmas.{told_pushed, told_all}
use Rattle.open_graph.proofs.slot_table.copy_entries.Goals as goal

pub loop-entry-preserved : goal.loop-entry-preserved
loop-entry-preserved c =
    let here : slice_index_or c.args.entries.now c.loop-entry.entry-index None ≡ c.entry-item.result =
    get_or_default c.args.entries.now c.loop-entry.entry-index None c.entry-item.result (omega arith) ∙ sym c.entry-item.is in
    rw c.in_ok-push.ensures.items
    (record {
      size = length_push c.loop-entry.copies.items c.in_ok-copy_entry.field-0 ∙ ap (λ n. n + 1) c.loop-entry.invariant.size;
      same = told_pushed c.args.entries.now c.loop-entry.copies.items c.loop-entry.entry-index c.entry-item.result c.in_ok-copy_entry.field-0
          c.loop-entry.invariant.size here c.in_ok-copy_entry.ensures c.loop-entry.invariant.same;
    })

pub returns-clause-same : goal.returns-clause-same
returns-clause-same c = told_all c.args.entries.now c.loop-entry.copies.items c.loop-entry.entry-index c.loop-entry.invariant.size (omega arith) c.loop-entry.invariant.same
