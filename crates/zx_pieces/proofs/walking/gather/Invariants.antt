-- The gates so far are walked along.
use Rattle.std.proofs.Common.{◌≡◌, ◌≤◌, ◌-◌, length, take}
use Rattle.zx_pieces.specs.Internal.Walking.{IsWide, IsWalk}
use Rattle.zx_pieces.proofs.walking.gather.Given as goal

abbrev pub invariant-gates : goal.invariant-gates
invariant-gates l = record {
  within : l.next ≤ length l.gates;
  qubits : l.walk.piece.qubits ≡ l.qubits;
  wide : IsWide l.walk;
  walk : IsWalk (take l.next l.gates) l.walk;
}

abbrev pub decreases-gates : goal.decreases-gates
decreases-gates l = length l.gates - l.next
