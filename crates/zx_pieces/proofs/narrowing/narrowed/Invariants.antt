-- The gates so far are on the numbers of their places.
use Rattle.std.proofs.Common.{◌≡◌, length, take}
use Rattle.piece_laws.specs.Places.{placed}
use Rattle.zx_pieces.proofs.narrowing.narrowed.Given as goal

abbrev pub invariant-loop-gate : goal.invariant-loop-gate
invariant-loop-gate l = record {
  qubits : l.small.qubits ≡ length l.places;
  gates : placed l.places l.small.gates ≡ take l.gate-index l.circuit.gates;
}
