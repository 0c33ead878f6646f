-- What a pass keeps: it makes a circuit of a circuit, or of something else that has a linear map.
use Rattle.std.specs.Prelude.{◌≡◌, ◌≤◌, ℕ, Bool, List}
use Rattle.zx_model.specs.Number.{Number}
use Rattle.zx_model.specs.Scalar.{IsScaled, IsWithin}
use Rattle.zx_model.specs.declared.scalar.Scalar.{Scalar}
use Rattle.zx_gates.specs.Circuit.{Circuit, gate_odd_phases}
use Rattle.zx_gates.specs.Maps.{amp}

-- The circuit `made` is on n qubits. The map is exactly s times its own, where the exponent of the root of two in s is
-- at most `most` in size. At most so many of its phases are odd.
pub record Implements (n : ℕ) (map : List Bool → List Bool → Number) (odd_phases most : ℕ) (made : Circuit)
    (s : Scalar) : Type 0 where
  pub qubits : made.qubits ≡ n
  pub scaled : IsScaled n n map s (amp made.gates)
  pub small : IsWithin most s
  pub odd : gate_odd_phases made.gates ≤ odd_phases

-- the same of the qubits, the map and the odd phases of a circuit that was read
abbrev pub Preserves : ℕ → Circuit → Circuit → Scalar → Type 0
Preserves most read made s = Implements read.qubits (amp read.gates) (gate_odd_phases read.gates) most made s
