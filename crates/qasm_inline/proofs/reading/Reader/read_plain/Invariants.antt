-- Up to the rest all is read, and no part is open.
use Rattle.std.proofs.Common.{ℕ, length}
use Rattle.qasm_inline.specs.Internal.Spellings.{IsBetween, IsReadTo}
use Rattle.qasm_inline.proofs.reading.Reader.read_plain.Given as goal

abbrev pub invariant-loop-behind : goal.invariant-loop-behind
invariant-loop-behind l = record {
  between : IsBetween l.self;
  read : (from : ℕ) → IsReadTo l.fn.self l.text l.place l.rest from l.self;
}

abbrev pub decreases-loop-behind : goal.decreases-loop-behind
decreases-loop-behind l = length l.rest
