-- The gates so far are added.
use Rattle.std.proofs.Common.{◌≡◌, ◌++◌, take}
use Rattle.zx_pieces.proofs.replacing.append.Given as goal

abbrev pub invariant-loop-gate : goal.invariant-loop-gate
invariant-loop-gate l = record {
  qubits : l.list.qubits ≡ l.fn.list.qubits;
  gates : l.list.gates ≡ l.fn.list.gates ++ take l.gate-index l.other.gates;
}
