-- The gates so far are on their places.
use Rattle.std.proofs.Common.{◌≡◌, take}
use Rattle.piece_laws.specs.Places.{placed}
use Rattle.zx_pieces.proofs.narrowing.widened.Given as goal

abbrev pub invariant-loop-gate : goal.invariant-loop-gate
invariant-loop-gate l = record {
  qubits : l.made.qubits ≡ l.qubits;
  gates : l.made.gates ≡ placed l.places (take l.gate-index l.small.gates);
}
