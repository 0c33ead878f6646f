-- The gates so far, and those that the generator gives from now on, are those of the seed.
use Rattle.std.proofs.Common.{◌≡◌, ◌-◌, ◌++◌}
use Rattle.zx_gen.specs.Generator.{next_gates, generated}
use Rattle.zx_gen.proofs.generator.generate.Given as goal

abbrev pub invariant-loop : goal.invariant-loop
invariant-loop l = record {
  qubits : l.circuit.qubits ≡ l.qubits;
  gates : l.circuit.gates ++ next_gates l.qubits (l.gates - l.counter) l.generator ≡ generated l.seed l.qubits l.gates;
}
