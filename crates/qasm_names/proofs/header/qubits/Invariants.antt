use Rattle.std.proofs.Common.{◌≡◌, take}
use Rattle.qasm_names.proofs.header.qubits.Given as goal

abbrev pub invariant-loop-place : goal.invariant-loop-place
invariant-loop-place l = l.qubits.items ≡ take l.place-index l.places
