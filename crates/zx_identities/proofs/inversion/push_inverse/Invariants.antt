-- The gates from the last one on are undone.
use Rattle.std.proofs.Common.{◌≡◌, ◌++◌, drop}
use Rattle.zx_identities.specs.Inverse.{inverse_of}
use Rattle.zx_identities.proofs.inversion.push_inverse.Given as goal

abbrev pub invariant-loop-i : goal.invariant-loop-i
invariant-loop-i l = record {
  qubits : l.made.qubits ≡ l.list.qubits;
  gates : l.made.gates ≡ l.fn.made.gates ++ inverse_of (drop l.i l.list.gates);
}
