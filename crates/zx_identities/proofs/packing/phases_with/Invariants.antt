-- What is left to append makes all of it, and the word has no more bits than terms so far.
use Rattle.std.proofs.Common.{◌≡◌, ◌<◌, ◌^◌, drop}
use Rattle.zx_identities.specs.Internal.Packing.{packed, has_turns}
use Rattle.zx_identities.proofs.packing.phases_with.Given as goal

abbrev pub invariant-loop-term : goal.invariant-loop-term
invariant-loop-term l = record {
  all : packed l.word (has_turns l.turns) (drop l.term-index l.terms) ≡ packed 0 (has_turns l.turns) l.terms;
  small : l.word < 2 ^ l.term-index;
}
