-- What circuits become where gates are put in.
use Rattle.std.specs.Prelude.{◌≡◌, ◌≤◌, Bool, List, ◌++◌, length, take, drop}
use Rattle.zx_model.specs.Number.{Number}
use Rattle.zx_model.specs.Scalar.{IsScaled}
use Rattle.zx_gates.specs.Circuit.{Circuit, IsCircuit}
use Rattle.zx_gates.specs.Maps.{amp}
use Rattle.zx_gates.specs.declared.scaled_circuit.ScaledCircuit.{ScaledCircuit}
use Rattle.zx_gates.specs.declared.gate.Gate.{Gate}
use Rattle.zx_identities.specs.Inverse.{inverse_of}
use Rattle.zx_identities.specs.declared.inserting.Insertion.{Insertion}

-- there is such a place, and the numbers of qubits are the same
pub record Fits (circuit : Circuit) (insertion : Insertion) : Type 0 where
  pub place : insertion.place ≤ length circuit.gates
  pub frame : insertion.frame.qubits ≡ circuit.qubits
  pub frame_gates : IsCircuit insertion.frame
  pub inner : insertion.inner.qubits ≡ circuit.qubits

-- the gates of the frame, the inner ones and what undoes the frame stand behind so many of the circuit
abbrev pub inserted : List Gate → Insertion → List Gate
inserted gates insertion =
    take insertion.place gates ++ (insertion.frame.gates ++ insertion.inner.gates ++ inverse_of insertion.frame.gates)
    ++ drop insertion.place gates

-- on as many qubits, whatever map is the scalar times that of the one circuit is the scalar times that of the other
pub record IsRescaled (old new : ScaledCircuit) : Type 0 where
  pub qubits : new.gates.qubits ≡ old.gates.qubits
  pub map : (f : List Bool → List Bool → Number) →
      IsScaled old.gates.qubits old.gates.qubits f old.scalar (amp old.gates.gates) →
      IsScaled old.gates.qubits old.gates.qubits f new.scalar (amp new.gates.gates)
