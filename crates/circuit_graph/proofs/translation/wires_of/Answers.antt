-- What holds after all gates.
use Rattle.std.proofs.Common.{◌≡◌, ◌∙◌, sym, ap, subst, length, take, get_or, arith}
use Rattle.std.proofs.Math.Seq.{take-length}
use Rattle.std.proofs.lemmas.List.FromFn.{length-map-range_with_len}
use Rattle.zx_calculus.specs.Graph.{plain}
use Rattle.circuit_graph.specs.Translation.{written_out}
use Rattle.circuit_graph.specs.Internal.Wires.{graph_so_far}
use Rattle.circuit_graph.specs.Internal.Runs.{GraphSoFar, begun, IsReady, IsRun}
use Rattle.circuit_graph.proofs.RunLemmas.{run_more}
use Rattle.circuit_graph.proofs.Whole.{run_translates}
use Rattle.circuit_graph.proofs.translation.wires_of.Goals as goal

pub loop-gate-init : goal.loop-gate-init
loop-gate-init c = record {
  run = sym (c.in_ok-wires.ensures.begun ∙ ap begun c.qubits.ensures.value);
  ready = c.in_ok-wires.ensures.ready;
  outputs = ap (λ (s : GraphSoFar). length s.graph.outputs) c.in_ok-wires.ensures.begun ∙ length-map-range_with_len plain 0 c.qubits.result ∙ c.qubits.ensures.value;
}

pub loop-gate-preserved : goal.loop-gate-preserved
loop-gate-preserved c = record {
  run = run_more (begun c.args.circuit.now.qubits) c.args.circuit.now.gates c.loop-gate.gate-index c.gate-item.result (graph_so_far c.loop-gate.wires) _
      (omega (arith, ap length c.gates-gate-items.ensures.value)) (c.gate-item.is ∙ ap (λ gates. get_or gates c.loop-gate.gate-index c.gate-item.result) c.gates-gate-items.ensures.value)
      c.loop-gate.invariant.run c.in_ok-add_gate.ensures.run;
  ready = c.in_ok-add_gate.ensures.ready;
  outputs = c.in_ok-add_gate.ensures.outputs ∙ c.loop-gate.invariant.outputs;
}

pub returns : goal.returns
returns c =
    let all : c.loop-gate.gate-index ≡ length c.args.circuit.now.gates = omega (arith, ap length c.gates-gate-items.ensures.value) in
    run_translates c.args.circuit.now (graph_so_far c.loop-gate.wires)
    (subst IsReady (c.in_ok-wires.ensures.begun ∙ ap begun c.qubits.ensures.value) c.in_ok-wires.ensures.ready)
    (λ k d within. (c.gates-gate-items.ensures.valid.on_qubits k d within).0)
    (subst (λ gates. IsRun (begun c.args.circuit.now.qubits) (written_out gates) (graph_so_far c.loop-gate.wires))
    (ap (λ i. take i c.args.circuit.now.gates) all ∙ take-length c.args.circuit.now.gates) c.loop-gate.invariant.run)
