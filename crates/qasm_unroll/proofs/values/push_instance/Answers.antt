-- A qubit more.
use Rattle.std.proofs.Common.{◌≡◌, ◌++◌, ◌∷◌, [], map, take, sym, ap, ◌∙◌, rules}
use Rattle.std.proofs.lemmas.List.{append_assoc}
use Rattle.qasm_unroll.specs.Internal.Spans.{span_range, cut_element_at}
use Rattle.qasm_names.proofs.PlaceLemmas.{map-map-more}
use Rattle.qasm_unroll.proofs.values.push_instance.Goals as goal

pub loop-span-preserved : goal.loop-span-preserved
loop-span-preserved c =
    let old = c.args.qubits.now.items in
    let spans = c.args.spans.now in
    let i = c.loop-span.span-index in
    let done = map (cut_element_at c.args.index) (map span_range (take i spans)) in
    let pushed : c.push.new.self.items ≡ c.loop-span.qubits.items ++ c.instance_qubit.result ∷ [] = search rules in
    pushed ∙ ap (λ qubits. qubits ++ c.instance_qubit.result ∷ []) c.loop-span.invariant
    ∙ append_assoc old done (c.instance_qubit.result ∷ [])
    ∙ ap (λ qubits. old ++ qubits)
    (ap (λ qubit. done ++ qubit ∷ []) c.instance_qubit.ensures ∙ sym (map-map-more (cut_element_at c.args.index) span_range spans i _ c.loop-span-test.true))
