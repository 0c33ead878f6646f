-- The graph so far is that of the gates so far, written out.
use Rattle.std.proofs.Common.{take}
use Rattle.circuit_graph.specs.Translation.{written_out}
use Rattle.zx_reduce.specs.Internal.Growing.{IsGrown, none_held}
use Rattle.zx_reduce.proofs.growing.grow.Given as goal

abbrev pub invariant-loop-gate : goal.invariant-loop-gate
invariant-loop-gate l = record {
  grown : IsGrown l.circuit.qubits (written_out (take l.gate-index l.circuit.gates)) none_held l.growing.engine.progress;
}
