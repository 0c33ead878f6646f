-- Circuits that are made of others, step by step.
use Rattle.std.specs.Prelude.{◌≡◌, ◌≤◌, ℕ, ◌^◌, List, ◌++◌, length, drop}
use Rattle.zx_model.specs.Scalar.{IsWithin}
use Rattle.zx_gates.specs.Circuit.{Circuit}
use Rattle.zx_gates.specs.declared.gate.Gate.{Gate}
use Rattle.zx_gates.specs.declared.scaled_circuit.ScaledCircuit.{ScaledCircuit}
use Rattle.piece_laws.specs.Replacement.{AreScaled}
use Rattle.zx_optimise.specs.Bounds.{most_root2_of_fewer}

-- A circuit on as many qubits: the map of the read one is exactly the scalar times its own, and the exponent of the root
-- of two in that is at most `most` in size.
pub record IsMadeOf (most : ℕ) (read : Circuit) (made : ScaledCircuit) : Type 0 where
  pub qubits : made.gates.qubits ≡ read.qubits
  pub scaled : AreScaled read.qubits read.gates made.scalar made.gates.gates
  pub small : IsWithin most made.scalar

-- the greatest exponent, in size, where phases are put together once, and after cleanup
abbrev pub most_root2_of_one : ℕ
most_root2_of_one = 2 ^ 57

-- what is made of the gates in front of a place of a list on n qubits, with those behind it
pub record IsMadeUpTo (n : ℕ) (gates : List Gate) (start : ℕ) (made : ScaledCircuit) : Type 0 where
  pub qubits : made.gates.qubits ≡ n
  pub within : start ≤ length gates
  pub scaled : AreScaled n gates made.scalar (made.gates.gates ++ drop start gates)
  pub small : IsWithin most_root2_of_fewer made.scalar
