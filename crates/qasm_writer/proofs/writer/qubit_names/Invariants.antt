-- The first qubits have their names.
use Rattle.std.proofs.Common.{◌≡◌, length}
use Rattle.qasm_writer.specs.Internal.Names.{AreNames}
use Rattle.qasm_writer.proofs.writer.qubit_names.Given as goal

abbrev pub invariant-loop-q : goal.invariant-loop-q
invariant-loop-q l = record {
  as_many : length l.names.items ≡ l.q;
  named : AreNames l.names.items;
}
