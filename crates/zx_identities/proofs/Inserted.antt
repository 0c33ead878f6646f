-- Maps of circuits with gates put in.
use Rattle.std.proofs.Common.{◌≡◌, ℕ, List, [], ◌++◌, take, drop, sym, subst, arith}
use Rattle.std.specs.List.{All}
use Rattle.std.proofs.lemmas.List.{take-append-drop}
use Rattle.zx_model.specs.Scalar.{IsScaled, IsWithin, one_scalar, quotient_of_scalars, product_of_scalars}
use Rattle.zx_model.specs.declared.scalar.Scalar.{Scalar}
use Rattle.zx_model.proofs.Scalars.{scaled_refl, scaled_over, scaled_trans}
use Rattle.zx_gates.specs.Circuit.{Circuit, IsGateOn}
use Rattle.zx_gates.specs.Maps.{amp}
use Rattle.zx_gates.specs.declared.gate.Gate.{Gate}
use Rattle.zx_gates.specs.declared.scaled_circuit.ScaledCircuit.{ScaledCircuit}
use Rattle.piece_laws.specs.Replacement.{AreScaled}
use Rattle.zx_identities.specs.Inverse.{inverse_of, undone_scalar}
use Rattle.zx_identities.proofs.PuttingIn.{put_in}
use Rattle.zx_identities.specs.declared.inserting.Insertion.{Insertion}
use Rattle.zx_identities.specs.Insertions.{most_root2_of_insertions}
use Rattle.zx_identities.specs.Internal.Inserting.{Fits, inserted, IsRescaled}

-- the old circuit by the new one
halved : (n place : ℕ) (gates frame inner : List Gate) → All (IsGateOn n) frame → AreScaled n inner one_scalar []
    → AreScaled n gates (quotient_of_scalars one_scalar (undone_scalar frame)) (take place gates ++ (frame ++ inner ++ inverse_of frame) ++ drop place gates)
halved n place gates frame inner on same =
    scaled_over n n (amp gates) (amp gates) (amp (take place gates ++ (frame ++ inner ++ inverse_of frame) ++ drop place gates)) one_scalar (undone_scalar frame) (omega arith)
    (scaled_refl n n (amp gates))
    (subst (λ gs. AreScaled n (take place gates ++ (frame ++ inner ++ inverse_of frame) ++ drop place gates) (undone_scalar frame) gs) (take-append-drop place gates)
    (put_in n (take place gates) frame inner (drop place gates) on same))

pub inserted_scaled : (circuit made : Circuit) (insertion : Insertion) (s : Scalar) → Fits circuit insertion
    → AreScaled insertion.inner.qubits insertion.inner.gates one_scalar [] → made.gates ≡ inserted circuit.gates insertion
    → s ≡ quotient_of_scalars one_scalar (undone_scalar insertion.frame.gates) → AreScaled circuit.qubits circuit.gates s made.gates
inserted_scaled circuit made insertion s fits same is scalar =
    subst (λ gates. AreScaled circuit.qubits circuit.gates s gates) (sym is)
    (subst (λ t. AreScaled circuit.qubits circuit.gates t (inserted circuit.gates insertion)) (sym scalar)
    (halved circuit.qubits insertion.place circuit.gates insertion.frame.gates insertion.inner.gates
    (subst (λ n. All (IsGateOn n) insertion.frame.gates) fits.frame fits.frame_gates.on_qubits)
    (subst (λ n. AreScaled n insertion.inner.gates one_scalar []) fits.inner same)))

pub one_more : (made : ScaledCircuit) (new : Circuit) (s t : Scalar) → new.qubits ≡ made.gates.qubits → AreScaled made.gates.qubits made.gates.gates s new.gates
    → t ≡ product_of_scalars made.scalar s → IsRescaled made (record { gates = new; scalar = t })
one_more made new s t qubits scaled product = record {
  qubits = qubits;
  map = λ f p.
      subst (λ u. IsScaled made.gates.qubits made.gates.qubits f u (amp new.gates)) (sym product)
      (scaled_trans made.gates.qubits made.gates.qubits f (amp made.gates.gates) (amp new.gates) made.scalar s p scaled);
}

pub started : (circuit copy : Circuit) (s : Scalar) → copy ≡ circuit → s ≡ one_scalar → AreScaled circuit.qubits circuit.gates s copy.gates
started circuit copy s same one =
    subst (λ t. AreScaled circuit.qubits circuit.gates t copy.gates) (sym one)
    (subst (λ (c : Circuit). AreScaled circuit.qubits circuit.gates one_scalar c.gates) (sym same) (scaled_refl circuit.qubits circuit.qubits (amp circuit.gates)))

pub one_within : (s : Scalar) → s ≡ one_scalar → IsWithin most_root2_of_insertions s
one_within s one = subst (IsWithin most_root2_of_insertions) (sym one) (omega arith)
