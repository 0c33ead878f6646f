use Rattle.std.proofs.Common.{◌≡◌, [], length, map}
use Rattle.std.specs.List.{flat_map}
use Rattle.qasm_unroll.specs.Internal.KeptCalls.{Numbered, Unrolls, Continues, called_events, values_of}
use Rattle.qasm_unroll.specs.Internal.KnownCalls.{AreKnown}
use Rattle.qasm_scope.specs.Meaning.{most_calls}
use Rattle.qasm_unroll.specs.Internal.Spans.{span_range, cut_instance, cut_instances}
use Rattle.qasm_unroll.proofs.InstanceLemmas.{from_to}
use Rattle.qasm_unroll.proofs.instances.call_instances.Given as goal

abbrev pub invariant-loop-index : goal.invariant-loop-index
invariant-loop-index l = record {
  known : l.unrolled.known ≡ l.initial.unrolled.known;
  leads : (numbered : Numbered) → Unrolls l.gates numbered → AreKnown numbered (length l.gates) l.initial.unrolled.known.items
      → Continues most_calls l.fn.unrolled.calls l.fn.unrolled.gates (flat_map (called_events numbered l.called 1 (values_of l.angles [])) (cut_instances (map span_range l.spans)))
      l.unrolled.calls l.unrolled.gates
      (from_to (λ index. called_events numbered l.called 1 (values_of l.angles []) (cut_instance (map span_range l.spans) index)) l.index l.index-end);
}
