-- What holds after all gates.
use Rattle.std.proofs.Common.{◌≡◌, ◌∙◌, sym, ap, subst, ◌+◌, ◌∷◌, ◌++◌, [], length, take, drop, get_or, arith}
use Rattle.std.proofs.Math.Seq.{take-length}
use Rattle.std.proofs.lemmas.List.FromFn.{length-map-range_with_len}
use Rattle.zx_calculus.specs.Graph.{plain}
use Rattle.circuit_graph.specs.Translation.{written_out, places_from}
use Rattle.circuit_graph.specs.Internal.Wires.{graph_so_far}
use Rattle.circuit_graph.specs.Internal.Runs.{GraphSoFar, begun, IsReady, IsRun}
use Rattle.circuit_graph.proofs.RunLemmas.{run_more}
use Rattle.circuit_graph.proofs.Places.{place_more, places_begun, places_done}
use Rattle.circuit_graph.proofs.Whole.{run_translates}
use Rattle.circuit_graph.proofs.translation.wires_placed.Goals as goal

pub loop-gate-init : goal.loop-gate-init
loop-gate-init c = record {
  run = sym (c.in_ok-made.ensures.begun ∙ ap begun c.qubits.ensures.value);
  ready = c.in_ok-made.ensures.ready;
  outputs = ap (λ (s : GraphSoFar). length s.graph.outputs) c.in_ok-made.ensures.begun ∙ length-map-range_with_len plain 0 c.qubits.result ∙ c.qubits.ensures.value;
  places = ap (λ items. items ++ places_from c.in_ok-made.made.graph.graph (drop 0 c.args.circuit.now.gates)) c.new-places.ensures.items
      ∙ places_begun c.args.circuit.now (graph_so_far c.in_ok-made.made) (c.in_ok-made.ensures.begun ∙ ap begun c.qubits.ensures.value);
}

pub loop-gate-preserved : goal.loop-gate-preserved
loop-gate-preserved c = record {
  run = run_more (begun c.args.circuit.now.qubits) c.args.circuit.now.gates c.loop-gate.gate-index c.gate-item.result (graph_so_far c.loop-gate.made) _
      (omega (arith, ap length c.gates-gate-items.ensures.value)) (c.gate-item.is ∙ ap (λ gates. get_or gates c.loop-gate.gate-index c.gate-item.result) c.gates-gate-items.ensures.value)
      c.loop-gate.invariant.run c.in_ok-add_gate.ensures.run;
  ready = c.in_ok-add_gate.ensures.ready;
  outputs = c.in_ok-add_gate.ensures.outputs ∙ c.loop-gate.invariant.outputs;
  places = ap (λ items. items ++ places_from c.add_gate.new.self.graph.graph (drop (c.loop-gate.gate-index + 1) c.args.circuit.now.gates))
      (c.in_ok-push.ensures.items ∙ ap (λ place. c.loop-gate.places.items ++ place ∷ []) c.place.ensures)
      ∙ place_more c.args.circuit.now c.loop-gate.gate-index c.gate-item.result c.loop-gate.places.items (graph_so_far c.loop-gate.made) _
      (omega (arith, ap length c.gates-gate-items.ensures.value)) (c.gate-item.is ∙ ap (λ gates. get_or gates c.loop-gate.gate-index c.gate-item.result) c.gates-gate-items.ensures.value)
      c.loop-gate.invariant.ready c.in_ok-add_gate.ensures.run c.loop-gate.invariant.places;
}

pub returns : goal.returns
returns c =
    let all : c.loop-gate.gate-index ≡ length c.args.circuit.now.gates = omega (arith, ap length c.gates-gate-items.ensures.value) in
    record {
      translates = run_translates c.args.circuit.now (graph_so_far c.loop-gate.made)
          (subst IsReady (c.in_ok-made.ensures.begun ∙ ap begun c.qubits.ensures.value) c.in_ok-made.ensures.ready)
          (λ k d within. (c.gates-gate-items.ensures.valid.on_qubits k d within).0)
          (subst (λ gates. IsRun (begun c.args.circuit.now.qubits) (written_out gates) (graph_so_far c.loop-gate.made))
          (ap (λ i. take i c.args.circuit.now.gates) all ∙ take-length c.args.circuit.now.gates) c.loop-gate.invariant.run);
      places = places_done c.args.circuit.now c.loop-gate.gate-index c.loop-gate.places.items c.loop-gate.made.graph.graph all c.loop-gate.invariant.places;
    }
