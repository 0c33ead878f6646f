-- The scalars of the gates so far are multiplied.
use Rattle.qasm_writer.proofs.LineScalars.{IsScaledTo}
use Rattle.qasm_writer.proofs.scalars.text_scalar.Given as goal

abbrev pub invariant-loop-gate : goal.invariant-loop-gate
invariant-loop-gate l = IsScaledTo l.g.qubits l.g.gates l.gate-index l.scalar
