use Rattle.std.proofs.Common.{◌≡◌, ◌++◌, take, drop}
use Rattle.qasm_unroll.specs.Internal.KeptCalls.{picked}
use Rattle.qasm_unroll.proofs.values.push_picked.Given as goal

abbrev pub invariant-loop-place : goal.invariant-loop-place
invariant-loop-place l =
    l.qubits.items ≡ l.fn.qubits.items ++ picked (drop l.base l.fn.qubits.items) (take l.place-index l.places)
