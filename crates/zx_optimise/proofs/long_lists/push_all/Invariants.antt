-- The gates so far are added.
use Rattle.std.proofs.Common.{◌≡◌, ◌++◌, take}
use Rattle.zx_optimise.proofs.long_lists.push_all.Given as goal

abbrev pub invariant-loop-gate : goal.invariant-loop-gate
invariant-loop-gate l = record {
  qubits : l.made.qubits ≡ l.fn.made.qubits;
  gates : l.made.gates ≡ l.fn.made.gates ++ take l.gate-index l.gates;
}
