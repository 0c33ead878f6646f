-- What is left to append makes all of it, and the word has no more bits than terms so far.
use Rattle.std.proofs.Common.{◌≡◌, ◌<◌, ◌^◌, drop}
use Rattle.zx_identities.specs.Internal.Packing.{packed, has_bit}
use Rattle.zx_identities.proofs.packing.parities_with.Given as goal

abbrev pub invariant-loop-term : goal.invariant-loop-term
invariant-loop-term l = record {
  all : packed l.word (has_bit l.bit) (drop l.term-index l.terms) ≡ packed 0 (has_bit l.bit) l.terms;
  small : l.word < 2 ^ l.term-index;
}
