-- What was added, and what is left backwards, are all gates.
use Rattle.std.proofs.Common.{◌≡◌, ◌++◌, reverse, vec_len}
use Rattle.std.specs.List.{All}
use Rattle.zx_gates.specs.Circuit.{IsOnQubits}
use Rattle.zx_extract.proofs.crossing.add_backwards.Given as goal

abbrev pub invariant-loop-gate : goal.invariant-loop-gate
invariant-loop-gate l = record {
  qubits : l.circuit.qubits ≡ l.initial.circuit.qubits;
  gates : l.circuit.gates ++ reverse l.backwards.items ≡ l.initial.circuit.gates ++ reverse l.initial.backwards.items;
  on_qubits : All (IsOnQubits l.initial.circuit.qubits) l.backwards.items;
}

abbrev pub decreases-loop-gate : goal.decreases-loop-gate
decreases-loop-gate l = vec_len l.backwards
