use Rattle.std.proofs.Common.{◌≡◌, ◌++◌, map, take}
use Rattle.qasm_unroll.specs.Internal.Spans.{span_range, cut_element_at}
use Rattle.qasm_unroll.proofs.values.push_instance.Given as goal

abbrev pub invariant-loop-span : goal.invariant-loop-span
invariant-loop-span l =
    l.qubits.items ≡ l.fn.qubits.items ++ map (cut_element_at l.index) (map span_range (take l.span-index l.spans))
