use Rattle.std.proofs.Common.{map, take}
use Rattle.std.specs.List.{range_with_len}
use Rattle.qasm_unroll.specs.Internal.KeptMeasures.{Adds, cut_measure}
use Rattle.qasm_unroll.specs.Internal.Spans.{span_range}
use Rattle.qasm_unroll.proofs.measured.Measured.add.Given as goal

abbrev pub invariant-loop-index : goal.invariant-loop-index
invariant-loop-index l =
    Adds l.fn.self l.self (map (cut_measure (span_range l.from) (span_range l.to)) (take l.index (range_with_len 0 l.index-end)))
