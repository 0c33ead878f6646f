-- Circuits that are made of others, one after the other.
use Rattle.std.proofs.Common.{◌≡◌, ℕ, sym, ap, ◌∙◌, subst, arith}
use Rattle.zx_model.specs.Scalar.{IsScaled, IsWithin, one_scalar, product_of_scalars}
use Rattle.zx_model.specs.declared.scalar.Scalar.{Scalar}
use Rattle.zx_model.proofs.Scalars.{scaled_refl, scaled_trans}
use Rattle.zx_gates.specs.Circuit.{Circuit}
use Rattle.zx_gates.specs.Maps.{amp}
use Rattle.zx_gates.specs.Passes.{Preserves}
use Rattle.zx_gates.specs.declared.scaled_circuit.ScaledCircuit.{ScaledCircuit}
use Rattle.zx_optimise.specs.Internal.Making.{IsMadeOf}

-- a circuit that is made of the one that was made
pub made-trans : (k most : ℕ) (read : Circuit) (middle made : ScaledCircuit) (s : Scalar) (a : ℕ) → IsMadeOf a read middle
    → IsMadeOf k middle.gates made → s ≡ product_of_scalars middle.scalar made.scalar → IsWithin most s
    → IsMadeOf most read (record { gates = made.gates; scalar = s })
made-trans k most read middle made s a first second product small = record {
  qubits = second.qubits ∙ first.qubits;
  scaled = subst (λ (t : Scalar). IsScaled read.qubits read.qubits (amp read.gates) t (amp made.gates.gates)) (sym product)
      (scaled_trans read.qubits read.qubits (amp read.gates) (amp middle.gates.gates) (amp made.gates.gates) middle.scalar made.scalar
      first.scaled
      (subst (λ (n : ℕ). IsScaled n n (amp middle.gates.gates) made.scalar (amp made.gates.gates)) first.qubits second.scaled));
  small = small;
}

-- what a pass makes
pub made_by_pass : (k : ℕ) (read made : Circuit) (s : Scalar) → Preserves k read made s
    → IsMadeOf k read (record { gates = made; scalar = s })
made_by_pass k read made s kept = record { qubits = kept.qubits; scaled = kept.scaled; small = kept.small }

-- the circuit itself
pub made_of_itself : (most : ℕ) (read copy : Circuit) (s : Scalar) → copy ≡ read → s ≡ one_scalar
    → IsMadeOf most read (record { gates = copy; scalar = s })
made_of_itself most read copy s same one = record {
  qubits = ap (λ (c : Circuit). c.qubits) same;
  scaled = subst (λ (t : Scalar). IsScaled read.qubits read.qubits (amp read.gates) t (amp copy.gates)) (sym one)
      (subst (λ (c : Circuit). IsScaled read.qubits read.qubits (amp read.gates) one_scalar (amp c.gates)) (sym same)
      (scaled_refl read.qubits read.qubits (amp read.gates)));
  small = subst (IsWithin most) (sym one) (omega arith);
}
