-- The circuit so far is on the qubits.
use Rattle.std.proofs.Common.{◌≡◌}
use Rattle.pauli_network.proofs.proposing.circuit_of.Given as goal

abbrev pub invariant-loop-gate : goal.invariant-loop-gate
invariant-loop-gate l = l.made.qubits ≡ l.qubits
