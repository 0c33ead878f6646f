-- Up to the rest there is white space alone.
use Rattle.std.proofs.Common.{length}
use Rattle.qasm_inline.specs.Internal.Spellings.{AreNone, IsSpelled}
use Rattle.qasm_inline.proofs.plain.behind_spaces.Given as goal

abbrev pub invariant-loop-behind : goal.invariant-loop-behind
invariant-loop-behind l = IsSpelled AreNone l.text l.rest

abbrev pub decreases-loop-behind : goal.decreases-loop-behind
decreases-loop-behind l = length l.rest
