-- The gates so far are added.
use Rattle.std.proofs.Common.{◌≡◌, ◌++◌, take}
use Rattle.zx_gates.proofs.gate_list.GateList.push_all.Given as goal

abbrev pub invariant-loop-gate : goal.invariant-loop-gate
invariant-loop-gate l = record {
  qubits : l.self.qubits ≡ l.fn.self.qubits;
  gates : l.self.gates ≡ l.fn.self.gates ++ take l.gate-index l.gates;
}
