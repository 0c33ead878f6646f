-- What is done and what is left replace the circuit, and less is left each time.
use Rattle.zx_pieces.specs.Internal.Working.{IsAt, left_of}
use Rattle.zx_pieces.proofs.replacing.replace_by.Given as goal

abbrev pub invariant-pieces : goal.invariant-pieces
invariant-pieces l = IsAt l.circuit.qubits l.circuit.gates l.work

abbrev pub decreases-pieces : goal.decreases-pieces
decreases-pieces l = left_of l.circuit.gates l.work
