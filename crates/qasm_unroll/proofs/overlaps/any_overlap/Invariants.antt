use Rattle.std.proofs.Common.{◌≡◌, map, length}
use Rattle.qasm_unroll.specs.Internal.Spans.{span_range, any_overlap}
use Rattle.qasm_unroll.proofs.overlaps.any_overlap.Given as goal

abbrev pub invariant-loop-rest : goal.invariant-loop-rest
invariant-loop-rest l = any_overlap l.count (map span_range l.spans) ≡ any_overlap l.count (map span_range l.rest)

abbrev pub decreases-loop-rest : goal.decreases-loop-rest
decreases-loop-rest l = length l.rest
