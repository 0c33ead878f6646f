use Rattle.std.proofs.Common.{◌∙◌, length}
use Rattle.zx_bits.proofs.Eliminating.{reduce_more}
use Rattle.zx_bits.proofs.solving.reduce.Goals as goal

pub loop-entry-preserved : goal.loop-entry-preserved
loop-entry-preserved c =
    let more = reduce_more (length c.args.row.now.bits) (length c.args.from.now.bits) c.args.basis.now c.loop-entry.entry-index c.entry-item.result
    (record { row = c.loop-entry.row.bits; from = c.loop-entry.from.bits }) _ c.loop-entry-test.true c.entry-item.is
    c.loop-entry.invariant.sizes c.loop-entry.invariant.lengths c.add_if_set.ensures in
    record { sizes = more.0; lengths = more.1; left = more.2 ∙ c.loop-entry.invariant.left }
