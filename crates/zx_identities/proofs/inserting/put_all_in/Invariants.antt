-- The map is the scalar times that of the circuit so far.
use Rattle.std.proofs.Common.{◌≡◌}
use Rattle.zx_model.specs.Scalar.{IsWithin}
use Rattle.piece_laws.specs.Replacement.{AreScaled}
use Rattle.zx_identities.specs.Insertions.{most_root2_of_insertions}
use Rattle.zx_identities.proofs.inserting.put_all_in.Given as goal

abbrev pub invariant-loop-insertion : goal.invariant-loop-insertion
invariant-loop-insertion l = record {
  qubits : l.made.gates.qubits ≡ l.circuit.qubits;
  scaled : AreScaled l.circuit.qubits l.circuit.gates l.made.scalar l.made.gates.gates;
  small : IsWithin most_root2_of_insertions l.made.scalar;
}
