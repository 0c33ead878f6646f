-- Passes one after the other.
use Rattle.std.proofs.Common.{◌≡◌, ◌≤◌, ℕ, ◌+◌, Bool, List, le_trans, sym, ◌∙◌, subst}
use Rattle.zx_model.specs.Number.{Number}
use Rattle.zx_model.specs.Scalar.{IsScaled, IsWithin, most_root2, product_of_scalars}
use Rattle.zx_model.specs.declared.scalar.Scalar.{Scalar}
use Rattle.zx_model.proofs.Scalars.{scaled_trans, within_more, within_product}
use Rattle.zx_gates.specs.Circuit.{Circuit}
use Rattle.zx_gates.specs.Maps.{amp}
use Rattle.zx_gates.specs.Passes.{Implements, Preserves}

-- a map that is a scalar times the one that the circuit implements
pub implements_scaled : {n k b most : ℕ} {f g : List Bool → List Bool → Number} {made : Circuit} {t u : Scalar} (a : ℕ) (s : Scalar)
    → IsScaled n n f s g → IsWithin a s → Implements n g k b made t → u ≡ product_of_scalars s t → a + b ≤ most
    → Implements n f k most made u
implements_scaled {n} {k} {b} {most} {f} {g} {made} {t} {u} a s first few second product fits = record {
  qubits = second.qubits;
  scaled = subst (λ (v : Scalar). IsScaled n n f v (amp made.gates)) (sym product)
      (scaled_trans n n f g (amp made.gates) s t first second.scaled);
  small = subst (IsWithin most) (sym product)
      (within_more (a + b) most (product_of_scalars s t) (within_product a b s t few second.small) fits);
  odd = second.odd;
}

-- the product of the scalars is told
pub product_fits : {n k b : ℕ} {g : List Bool → List Bool → Number} {made : Circuit} {t : Scalar} (a : ℕ) (s : Scalar)
    → IsWithin a s → Implements n g k b made t → a + b ≤ most_root2 → IsWithin most_root2 (product_of_scalars s t)
product_fits {n} {k} {b} {g} {made} {t} a s first second fits =
    within_more (a + b) most_root2 (product_of_scalars s t) (within_product a b s t first second.small) fits

-- a pass over the circuit that implements the map
pub implements_preserved : {n k a b most : ℕ} {f : List Bool → List Bool → Number} {made next : Circuit} {s t u : Scalar}
    → Implements n f k a made s → Preserves b made next t → u ≡ product_of_scalars s t → a + b ≤ most → Implements n f k most next u
implements_preserved {n} {k} {a} {b} {most} {f} {made} {next} {s} {t} {u} first second product fits =
    let rest : Implements n (amp made.gates) k b next t = record {
      qubits = second.qubits ∙ first.qubits;
      scaled = subst (λ m. IsScaled m m (amp made.gates) t (amp next.gates)) first.qubits second.scaled;
      small = second.small;
      odd = le_trans second.odd first.odd;
    } in
    implements_scaled a s first.scaled first.small rest product fits

-- larger scalars and more odd phases are allowed
pub implements_more : {n j k a b : ℕ} {f : List Bool → List Bool → Number} {made : Circuit} {s : Scalar}
    → Implements n f j a made s → j ≤ k → a ≤ b → Implements n f k b made s
implements_more {n} {j} {k} {a} {b} {f} {made} {s} is few fits = record {
  qubits = is.qubits;
  scaled = is.scaled;
  small = within_more a b s is.small fits;
  odd = le_trans is.odd few;
}
