-- The gates so far, written out, and the vertices that they and the gates left add phases to.
use Rattle.std.proofs.Common.{◌≡◌, length, take, drop, ◌++◌}
use Rattle.circuit_graph.specs.Translation.{written_out, places, places_from}
use Rattle.circuit_graph.specs.Internal.Runs.{begun, IsReady, IsRun}
use Rattle.circuit_graph.specs.Internal.Wires.{graph_so_far}
use Rattle.circuit_graph.proofs.translation.wires_placed.Given as goal

abbrev pub invariant-loop-gate : goal.invariant-loop-gate
invariant-loop-gate l = record {
  run : IsRun (begun l.circuit.qubits) (written_out (take l.gate-index l.circuit.gates)) (graph_so_far l.made);
  ready : IsReady (graph_so_far l.made);
  outputs : length l.made.graph.graph.outputs ≡ l.circuit.qubits;
  places : l.places.items ++ places_from l.made.graph.graph (drop l.gate-index l.circuit.gates) ≡ places l.circuit;
}
