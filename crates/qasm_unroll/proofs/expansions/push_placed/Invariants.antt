-- The gates so far are on the qubits at their places.
use Rattle.std.proofs.Common.{◌≡◌, ◌++◌, map, take}
use Rattle.qasm_unroll.specs.Internal.KeptCalls.{renamed}
use Rattle.qasm_unroll.specs.Internal.KnownCalls.{at}
use Rattle.qasm_unroll.proofs.expansions.push_placed.Given as goal

abbrev pub invariant-loop-gate : goal.invariant-loop-gate
invariant-loop-gate l = l.placed ≡ l.fn.placed ++ map (renamed (at l.qubits)) (take l.gate-index l.gates)
