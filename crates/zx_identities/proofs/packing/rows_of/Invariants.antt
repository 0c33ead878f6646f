-- Those so far.
use Rattle.std.proofs.Common.{◌≡◌, ◌<◌, ℕ, get_or, length}
use Rattle.zx_identities.specs.Internal.Packing.{packed, has_bit}
use Rattle.zx_identities.proofs.packing.rows_of.Given as goal

abbrev pub invariant-loop-bit : goal.invariant-loop-bit
invariant-loop-bit l = record {
  len : length l.rows ≡ 128;
  known : (bit : ℕ) → bit < l.bit → get_or l.rows bit 0 ≡ packed 0 (has_bit bit) l.terms;
}
