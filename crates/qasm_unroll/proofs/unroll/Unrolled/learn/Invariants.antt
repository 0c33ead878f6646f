-- Of the gates before this one there is a place.
use Rattle.std.proofs.Common.{◌≡◌, length}
use Rattle.qasm_unroll.specs.Internal.KeptCalls.{Numbered}
use Rattle.qasm_unroll.specs.Internal.KnownCalls.{AreKnown}
use Rattle.qasm_unroll.proofs.unroll.Unrolled.learn.Given as goal

abbrev pub invariant-loop-number : goal.invariant-loop-number
invariant-loop-number l = record {
  so_many : length l.self.known.items ≡ l._number;
  known : (numbered : Numbered) → AreKnown numbered (length l.gates) l.fn.self.known.items → AreKnown numbered (length l.gates) l.self.known.items;
  others : l.self ≡ record l.fn.self { known = l.self.known };
}
