-- The gates so far, written out.
use Rattle.std.proofs.Common.{◌≡◌, length, take}
use Rattle.circuit_graph.specs.Translation.{written_out}
use Rattle.circuit_graph.specs.Internal.Runs.{begun, IsReady, IsRun}
use Rattle.circuit_graph.specs.Internal.Wires.{graph_so_far}
use Rattle.circuit_graph.proofs.translation.wires_of.Given as goal

abbrev pub invariant-loop-gate : goal.invariant-loop-gate
invariant-loop-gate l = record {
  run : IsRun (begun l.circuit.qubits) (written_out (take l.gate-index l.circuit.gates)) (graph_so_far l.wires);
  ready : IsReady (graph_so_far l.wires);
  outputs : length l.wires.graph.graph.outputs ≡ l.circuit.qubits;
}
