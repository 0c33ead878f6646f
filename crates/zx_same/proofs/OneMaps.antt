-- Circuits with one map.
use Rattle.std.proofs.Common.{◌≡◌, refl, ◌∙◌, subst}
use Rattle.zx_model.specs.Proportional.{Proportional}
use Rattle.zx_model.specs.Scalar.{IsScaled}
use Rattle.zx_model.specs.declared.scalar.Scalar.{Scalar}
use Rattle.zx_model.proofs.ProportionalLemmas.{proportional_refl, proportional_trans}
use Rattle.zx_model.proofs.Scalars.{scaled_proportional}
use Rattle.zx_gates.specs.Circuit.{Circuit}
use Rattle.zx_gates.specs.Maps.{amp}
use Rattle.zx_same.specs.Internal.Vanishing.{HaveOneMap}

pub one_map_refl : (one : Circuit) → HaveOneMap one one
one_map_refl one = record { qubits = refl; map = proportional_refl one.qubits one.qubits (amp one.gates) }

pub one_map_trans : (one middle other : Circuit) → HaveOneMap one middle → HaveOneMap middle other → HaveOneMap one other
one_map_trans one middle other first second = record {
  qubits = second.qubits ∙ first.qubits;
  map = proportional_trans one.qubits one.qubits (amp one.gates) (amp middle.gates) (amp other.gates) first.map
      (subst (λ n. Proportional n n (amp middle.gates) (amp other.gates)) first.qubits second.map);
}

-- a circuit whose map is so many times that of another one on as many qubits
pub one_map_scaled : (one other : Circuit) (s : Scalar) → other.qubits ≡ one.qubits →
    IsScaled one.qubits one.qubits (amp one.gates) s (amp other.gates) → HaveOneMap one other
one_map_scaled one other s same scaled = record {
  qubits = same;
  map = scaled_proportional one.qubits one.qubits (amp one.gates) (amp other.gates) s scaled;
}
