-- Lists of which a part in the middle is replaced.
use Rattle.std.proofs.Common.{◌≡◌, ◌≤◌, ℕ, ◌+◌, ◌-◌, ◌++◌, List, [], take, drop, length, append-nil, append_assoc, sym, ap, ◌∙◌, subst, arith, OnOk}
use Rattle.std.specs.Prelude.{Result, Ok, Err}
use Rattle.std.proofs.lemmas.List.{drop-drop, take-append-drop, drop_all}
use Rattle.zx_model.specs.Scalar.{IsWithin, one_scalar, product_of_scalars}
use Rattle.zx_model.specs.declared.scalar.Scalar.{Scalar}
use Rattle.zx_model.proofs.Scalars.{scaled_refl, scaled_trans}
use Rattle.zx_gates.specs.Circuit.{Circuit}
use Rattle.zx_gates.specs.Maps.{amp}
use Rattle.zx_gates.specs.declared.gate.Gate.{Gate}
use Rattle.zx_gates.specs.declared.scaled_circuit.ScaledCircuit.{ScaledCircuit}
use Rattle.piece_laws.specs.Replacement.{AreScaled}
use Rattle.piece_laws.proofs.Scaling.{scaled_part}
use Rattle.zx_optimise.specs.Bounds.{most_root2_of_fewer}
use Rattle.zx_optimise.specs.Internal.Making.{IsMadeOf, IsMadeUpTo}

-- a part, and what is behind it
split : (gates : List Gate) (start end : ℕ) → start ≤ end → take (end - start) (drop start gates) ++ drop end gates ≡ drop start gates
split gates start end before =
    ap (λ xs. take (end - start) (drop start gates) ++ xs)
    (ap (λ k. drop k gates) (let e : end ≡ start + (end - start) = omega (arith, before) in e) ∙ sym (drop-drop (end - start) start gates))
    ∙ take-append-drop (end - start) (drop start gates)

module _ (n start end : ℕ) (gates : List Gate) (made : ScaledCircuit) (is : IsMadeUpTo n gates start made) (before : start ≤ end)
    (within : end ≤ length gates) (piece : List Gate) (part : piece ≡ take (end - start) (drop start gates)) where
  joined : made.gates.gates ++ piece ++ drop end gates ≡ made.gates.gates ++ drop start gates
  joined =
      append_assoc made.gates.gates piece (drop end gates)
      ∙ ap (λ xs. made.gates.gates ++ xs) (ap (λ xs. xs ++ drop end gates) part ∙ split gates start end before)

  here : AreScaled n gates made.scalar (made.gates.gates ++ piece ++ drop end gates)
  here = subst (λ xs. AreScaled n gates made.scalar xs) (sym joined) is.scaled

  -- the part stays
  pub piece_stays : (new : Circuit) → new.qubits ≡ made.gates.qubits → new.gates ≡ made.gates.gates ++ piece
      → IsMadeUpTo n gates end (record { gates = new; scalar = made.scalar })
  piece_stays new qubits added = record {
    qubits = qubits ∙ is.qubits;
    within = within;
    scaled = subst (λ xs. AreScaled n gates made.scalar (xs ++ drop end gates)) (sym added) here;
    small = is.small;
  }

  pub piece_stays_if : {T E : Type 0} (new : Circuit) (r : Result T E) → OnOk r (new.qubits ≡ made.gates.qubits)
      → OnOk r (new.gates ≡ made.gates.gates ++ piece)
      → OnOk r (IsMadeUpTo n gates end (record { gates = new; scalar = made.scalar }))
  piece_stays_if new (Ok x) qubits added = piece_stays new qubits added
  piece_stays_if new (Err e) qubits added = qubits

  -- it is replaced by what is made of it
  pub piece_replaced : (small : Circuit) (other : ScaledCircuit) (s : Scalar) (new : Circuit) → small.qubits ≡ n → small.gates ≡ piece
      → IsMadeOf most_root2_of_fewer small other → s ≡ product_of_scalars made.scalar other.scalar → IsWithin most_root2_of_fewer s
      → new.qubits ≡ made.gates.qubits → new.gates ≡ made.gates.gates ++ other.gates.gates
      → IsMadeUpTo n gates end (record { gates = new; scalar = s })
  piece_replaced small other s new width same replaces product fits qubits added = record {
    qubits = qubits ∙ is.qubits;
    within = within;
    scaled = subst (λ (t : Scalar). AreScaled n gates t (new.gates ++ drop end gates)) (sym product)
        (subst (λ xs. AreScaled n gates (product_of_scalars made.scalar other.scalar) (xs ++ drop end gates)) (sym added)
        (scaled_trans n n (amp gates) (amp (made.gates.gates ++ piece ++ drop end gates))
        (amp (made.gates.gates ++ other.gates.gates ++ drop end gates)) made.scalar other.scalar here
        (scaled_part n made.gates.gates piece other.gates.gates (drop end gates) other.scalar
        (subst (λ xs. AreScaled n xs other.scalar other.gates.gates) same
        (subst (λ (m : ℕ). AreScaled m small.gates other.scalar other.gates.gates) width replaces.scaled)))));
    small = fits;
  }

-- nothing is made at first
pub nothing_made : (list new : Circuit) (s : Scalar) → new.qubits ≡ list.qubits → new.gates ≡ [] → s ≡ one_scalar
    → IsMadeUpTo list.qubits list.gates 0 (record { gates = new; scalar = s })
nothing_made list new s qubits none one = record {
  qubits = qubits;
  within = omega arith;
  scaled = subst (λ (t : Scalar). AreScaled list.qubits list.gates t (new.gates ++ list.gates)) (sym one)
      (subst (λ xs. AreScaled list.qubits list.gates one_scalar (xs ++ list.gates)) (sym none)
      (scaled_refl list.qubits list.qubits (amp list.gates)));
  small = subst (IsWithin most_root2_of_fewer) (sym one) (omega arith);
}

-- and all at last
pub all_made : (list : Circuit) (start : ℕ) (made : ScaledCircuit) → IsMadeUpTo list.qubits list.gates start made
    → length list.gates ≤ start → IsMadeOf most_root2_of_fewer list made
all_made list start made is all = record {
  qubits = is.qubits;
  scaled = subst (λ xs. AreScaled list.qubits list.gates made.scalar xs)
      (ap (λ xs. made.gates.gates ++ xs) (drop_all start list.gates all) ∙ append-nil made.gates.gates) is.scaled;
  small = is.small;
}
