-- The Hadamards that are left follow.
use Rattle.std.proofs.Common.{◌≡◌, ◌++◌, drop, length}
use Rattle.circuit_laws.specs.Gates.{hadamards_from}
use Rattle.zx_extract.proofs.crossing.hadamards_from.Given as goal

abbrev pub invariant-loop-q : goal.invariant-loop-q
invariant-loop-q l = record {
  qubits : l.circuit.qubits ≡ length l.inputs;
  gates : l.circuit.gates ++ hadamards_from l.q (drop l.q l.inputs) ≡ hadamards_from 0 l.inputs;
}
