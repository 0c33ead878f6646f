-- Circuits with one map.
use Rattle.std.specs.Prelude.{◌≡◌}
use Rattle.zx_model.specs.Proportional.{Proportional}
use Rattle.zx_gates.specs.Circuit.{Circuit}
use Rattle.zx_gates.specs.Maps.{amp}

-- as many qubits, and one map up to a number other than 0
pub record HaveOneMap (one other : Circuit) : Type 0 where
  pub qubits : other.qubits ≡ one.qubits
  pub map : Proportional one.qubits one.qubits (amp one.gates) (amp other.gates)
