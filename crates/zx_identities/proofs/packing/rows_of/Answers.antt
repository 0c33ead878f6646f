-- One more.
use Rattle.std.proofs.Common.{length-set, ◌∙◌, arith}
use Rattle.zx_identities.specs.Internal.Packing.{packed, has_bit}
use Rattle.zx_identities.proofs.PackingLemmas.{known_more}
use Rattle.zx_identities.proofs.packing.rows_of.Goals as goal

pub loop-bit-preserved : goal.loop-bit-preserved
loop-bit-preserved c = record {
  len = length-set c.loop-bit.rows c.loop-bit.bit _ ∙ c.loop-bit.invariant.len;
  known = known_more (λ bit. packed 0 (has_bit bit) c.args.terms.now) c.loop-bit.rows c.loop-bit.bit c.parities_with.result
      (omega (arith, c.loop-bit.invariant.len, c.requires.few)) c.loop-bit.invariant.known c.parities_with.ensures;
}
