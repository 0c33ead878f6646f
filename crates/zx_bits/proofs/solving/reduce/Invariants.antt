use Rattle.std.proofs.Common.{◌≡◌, length, drop}
use Rattle.zx_bits.specs.Internal.Elimination.{HasSizes, reduced}
use Rattle.zx_bits.proofs.Eliminating.{HasLengths}
use Rattle.zx_bits.proofs.solving.reduce.Given as goal

abbrev pub invariant-loop-entry : goal.invariant-loop-entry
invariant-loop-entry l = record {
  sizes : HasSizes (length l.fn.row.bits) (length l.fn.from.bits) (drop l.entry-index l.basis);
  lengths : HasLengths (length l.fn.row.bits) (length l.fn.from.bits) (record { row = l.row.bits; from = l.from.bits });
  left : reduced (drop l.entry-index l.basis) (record { row = l.row.bits; from = l.from.bits }) ≡ reduced l.basis (record { row = l.fn.row.bits; from = l.fn.from.bits });
}
