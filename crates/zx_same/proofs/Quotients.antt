-- From the scalar of a circuit followed by the inverse of another to that between both.
use Rattle.std.proofs.Common.{◌≡◌, true, List, [], ◌∷◌, length, refl, sym, subst, arith}
use Rattle.std.specs.Prelude.{nat_eq}
use Rattle.std.proofs.lemmas.Bool.{eqb-true}
use Rattle.std.specs.List.{All}
use Rattle.zx_model.specs.Scalar.{IsScaled, quotient_of_scalars}
use Rattle.zx_model.specs.declared.scalar.Scalar.{Scalar}
use Rattle.zx_gates.specs.Circuit.{Circuit, IsCircuit, IsGateOn}
use Rattle.zx_gates.specs.Maps.{amp}
use Rattle.zx_gates.specs.declared.gate.Gate.{Gate}
use Rattle.zx_identities.specs.Inverse.{undone_by, undone_scalar}
use Rattle.zx_identities.proofs.OneMap.{one_map_scaled}

pub no_gates : (gates : List Gate) → nat_eq (length gates) 0 ≡ true → gates ≡ []
no_gates [] h = refl
no_gates (gate ∷ gates) h = absurd (let e : length (gate ∷ gates) ≡ 0 = eqb-true (length (gate ∷ gates)) 0 h in omega arith)

-- where no gate is left
pub quotient_seen : (a b both : Circuit) (s : Scalar) (left : List Gate) → a.qubits ≡ b.qubits → IsCircuit b → both ≡ undone_by a b →
    IsScaled both.qubits both.qubits (amp both.gates) s (amp left) → left ≡ [] →
    IsScaled a.qubits a.qubits (amp a.gates) (quotient_of_scalars s (undone_scalar b.gates)) (amp b.gates)
quotient_seen a b both s left same is undone e none =
    one_map_scaled a.qubits a.gates b.gates s (subst (λ n. All (IsGateOn n) b.gates) (sym same) is.on_qubits)
    (subst (λ gates. IsScaled a.qubits a.qubits (amp (undone_by a b).gates) s (amp gates)) none
    (subst (λ (c : Circuit). IsScaled c.qubits c.qubits (amp c.gates) s (amp left)) undone e))
