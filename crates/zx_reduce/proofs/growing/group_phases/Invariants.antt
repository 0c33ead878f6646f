-- The graph so far is that of the gates so far, written out, and holds their odd phases.
use Rattle.std.proofs.Common.{take}
use Rattle.circuit_graph.specs.Translation.{written_out}
use Rattle.zx_reduce.specs.Internal.Growing.{IsGrown, held_of}
use Rattle.zx_reduce.proofs.growing.group_phases.Given as goal

abbrev pub invariant-loop-i : goal.invariant-loop-i
invariant-loop-i l = record {
  grown : IsGrown l.circuit.qubits (written_out (take l.i l.circuit.gates)) (held_of l.circuit l.i) l.growing.engine.progress;
}
