-- The gates so far are lowered, and their scalars multiplied.
use Rattle.std.proofs.Common.{◌≡◌}
use Rattle.zx_gates.proofs.LoweringLemmas.{IsLoweredTo}
use Rattle.zx_gates.proofs.lowering.lower.Given as goal

abbrev pub invariant-loop-gate : goal.invariant-loop-gate
invariant-loop-gate l = record {
  qubits : l.list.qubits ≡ l.e.qubits;
  lowered : IsLoweredTo l.e.qubits l.e.gates l.gate-index l.list.gates l.scalar;
}
