-- What is said of two circuits.
use Rattle.std.specs.Prelude.{IsNone, IfSome}
use Rattle.std.proofs.Common.{Option, Some, None, ◌≡◌, ◌≢◌, ◌∙◌, ℕ, List, Bool, true, false, true≢false, length, sym, ap₂, subst, Contains}
use Rattle.zx_model.specs.Proportional.{Proportional}
use Rattle.zx_gates.specs.declared.elementary.Elementary.{Elementary}
use Rattle.zx_gates.specs.declared.elementary.Measure.{Measure}
use Rattle.zx_gates.specs.Circuit.{Circuit, IsCircuit, circuit_of, gate_odd_phases}
use Rattle.zx_gates.specs.Elementary.{elementary_odd_phases}
use Rattle.zx_gates.specs.Lowering.{lowered}
use Rattle.zx_gates.specs.Maps.{amp}
use Rattle.zx_same.specs.Comparing.{IsLeft}
use Rattle.zx_run.specs.Comparing.{AreProportional, HaveSameMeasures}
use Rattle.zx_run.specs.CircuitTexts.{circuit_for}
use Rattle.zx_run.specs.TwoTexts.{AreAccepted}
use Rattle.zx_run.specs.Internal.Verdicts.{HasLeft, IsComparison, IsComparisonOf}

-- ---- measurements

module _ (one other : Elementary) (these those : List Measure) (first : these ≡ one.measured) (second : those ≡ other.measured) where
  pub same_measures : one.bits ≡ other.bits → ((m : Measure) → Contains these m → Contains those m)
      → ((m : Measure) → Contains those m → Contains these m) → HaveSameMeasures one other
  same_measures bits all back = (
    bits,
    λ m. (
      λ k. subst (λ l. Contains l m) second (all m (subst (λ l. Contains l m) (sym first) k)),
      λ k. subst (λ l. Contains l m) first (back m (subst (λ l. Contains l m) (sym second) k)),
    ),
  )

  pub some_missing : (((m : Measure) → Contains these m → Contains those m) → ⊥) → HaveSameMeasures one other → ⊥
  some_missing missing same =
      missing (λ m k. subst (λ l. Contains l m) (sym second) ((same.1 m).0 (subst (λ l. Contains l m) first k)))

  pub some_further : (((m : Measure) → Contains those m → Contains these m) → ⊥) → HaveSameMeasures one other → ⊥
  some_further missing same =
      missing (λ m k. subst (λ l. Contains l m) (sym first) ((same.1 m).1 (subst (λ l. Contains l m) second k)))

-- ---- gates
pub lowered_is : (read : Elementary) (c : Circuit) → c.qubits ≡ read.qubits → c.gates ≡ lowered read.gates → c ≡ circuit_for read
lowered_is read c qubits gates = ap₂ circuit_of qubits gates

-- ---- of the circuits and of the texts that mean them
pub comparison_for : (text bytes : List ℕ) (one other : Elementary) (no : Bool) → AreAccepted text one other
    → IsComparisonOf one other bytes no → IsComparison text bytes no
comparison_for text bytes one other false accepted said = record { one = one; other = other; accepted = accepted; same = said }
comparison_for text bytes one other true accepted said = record { one = one; other = other; accepted = accepted; difference = said }

-- where a circuit is left, it isn't shown that both are the same
not_none : (found : Option Circuit) (count : ℕ) → HasLeft found count → IsNone found → ⊥
not_none None count told is = told
not_none (Some left) count told is = true≢false is

-- the circuit of which so many gates are left, with what it is left of
pub left_told : (a b : Circuit) (found : Option Circuit) (count : ℕ) → HasLeft found count → (a.gates ≡ b.gates → IsNone found) → IfSome found (IsLeft a b) →
    (left : Circuit) × (count ≡ length left.gates) × (a.gates ≢ b.gates) × IsLeft a b left × IsCircuit left
left_told a b None count told equal is_left = absurd told
left_told a b (Some left) count told equal is_left =
    (left, told.0, λ same. not_none (Some left) count told (equal same), is_left, told.1)

-- two circuits without odd phases have different maps where they aren't shown to be the same
pub maps_differ : (one other : Elementary) (a b : Circuit) (found : Option Circuit) (count : ℕ) → HasLeft found count → a ≡ circuit_for one → b ≡ circuit_for other
    → gate_odd_phases a.gates ≡ elementary_odd_phases one.gates → gate_odd_phases b.gates ≡ elementary_odd_phases other.gates
    → (gate_odd_phases a.gates ≡ 0 → gate_odd_phases b.gates ≡ 0 → Proportional a.qubits a.qubits (amp a.gates) (amp b.gates) → IsNone found)
    → elementary_odd_phases one.gates ≡ 0 → elementary_odd_phases other.gates ≡ 0 → AreProportional one other → ⊥
maps_differ one other a b found count told first second as_one as_other clifford none nothing same =
    not_none found count told
    (clifford (as_one ∙ none) (as_other ∙ nothing)
    (subst (λ (y : Circuit). Proportional a.qubits a.qubits (amp a.gates) (amp y.gates)) (sym second)
    (subst (λ (x : Circuit). Proportional x.qubits x.qubits (amp x.gates) (amp (circuit_for other).gates)) (sym first) same)))
