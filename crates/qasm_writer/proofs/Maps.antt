-- The map of a circuit whose CZ gates are written as H, CX and H.
use Rattle.std.proofs.Common.{◌≡◌, ◌≢◌, ℕ, ◌<◌, Bool, true, false, ◌&&◌, List, [], ◌∷◌, length, set, refl, sym, ap, ap₂, ◌∙◌, subst}
use Rattle.std.specs.List.{All}
use Rattle.std.proofs.lemmas.List.{set-set, set-get_or, get_or-set_same, get_or-set_other}
use Rattle.std.proofs.lemmas.List.Elements.{All-head, All-tail}
use Rattle.zx_model.specs.Number.{Number, add, neg, mul, sign}
use Rattle.zx_model.specs.Constants.{two}
use Rattle.zx_model.specs.Bits.{bit, xor}
use Rattle.zx_model.specs.Proportional.{Proportional}
use Rattle.zx_model.proofs.Ring.{expand, two_nonzero, add_left_comm, add-neg, add-zero}
use Rattle.zx_gates.specs.Circuit.{IsGateOn}
use Rattle.zx_gates.specs.Maps.{amp, act, acts, hadamard}
use Rattle.zx_gates.specs.declared.gate.Gate.{Gate}
use Rattle.zx_gates.specs.declared.gate.Gate.TheVariants.{H, Phase, Cz, Cx, Not}
use Rattle.zx_gates.proofs.MapLemmas.{amp-acts, acts-append}
use Rattle.zx_gates.proofs.Multiples.{Multiple, multiple-refl, multiple-then_second, act-factor, proportional_of_multiple}
use Rattle.zx_gates.proofs.UnitaryLemmas.{mixed, act_on-bit, set_hadamard, apply-hadamard}
use Rattle.qasm_writer.specs.Elements.{gate_without_cz, without_cz}

-- ---- CZ
far : (p q : Number) → add p (add q (add q (neg p))) ≡ add q q
far p q = add_left_comm p q (add q (neg p)) ∙ ap (add q) (add_left_comm p q (neg p) ∙ ap (add q) (add-neg p) ∙ add-zero q)

two_mixed : (u : Bool → Number) (a b : Bool) → mixed (λ c. mixed u (xor a c)) b ≡ mul two (mul (sign (a && b)) (u b))
two_mixed u false true = simp expand (far (u false) (u true))
two_mixed u true true = simp expand
two_mixed u _ _ = simp expand

-- CX where the target's bit was set before
set_cx : (i j : ℕ) (g : List Bool → Number) (x : List Bool) → j < length x → i ≢ j → (b : Bool)
    → act (Cx i j) g (set x j b) ≡ g (set x j (xor (bit x i) b))
set_cx i j g x within apart b =
    ap₂ (λ s t. g (set (set x j b) j (xor s t))) (get_or-set_other x j i b false apart) (get_or-set_same x j b false within)
    ∙ ap g (set-set x j b (xor (bit x i) b))

pub cz_by_cx : (i j : ℕ) (f : List Bool → Number) (x : List Bool) → j < length x → i ≢ j
    → acts (H j ∷ Cx i j ∷ H j ∷ []) f x ≡ mul two (act (Cz i j) f x)
cz_by_cx i j f x within apart =
    act_on-bit hadamard j (act (Cx i j) (act (H j) f)) (λ c. mixed u (xor (bit x i) c)) x
    (λ c. set_cx i j (act (H j) f) x within apart c ∙ set_hadamard j f u x within (λ d. refl) (xor (bit x i) c))
    ∙ apply-hadamard (λ c. mixed u (xor (bit x i) c)) (bit x j)
    ∙ two_mixed u (bit x i) (bit x j)
    ∙ ap (λ z. mul two (mul (sign (bit x i && bit x j)) (f z))) (set-get_or x j false)
  where
    u : Bool → Number
    u d = f (set x j d)

-- ---- gates and lists
multiple_gate : (n : ℕ) (g : Gate) → IsGateOn n g → Multiple n (acts (gate_without_cz g)) (act g)
multiple_gate n (H q) on = multiple-refl n (act (H q))
multiple_gate n (Phase q k) on = multiple-refl n (act (Phase q k))
multiple_gate n (Cz i j) on = record {
  factor = two;
  nonzero = two_nonzero;
  equal = λ f x l. cz_by_cx i j f x (subst (λ m. j < m) (sym l) on.0.1) on.0.2;
}
multiple_gate n (Cx control target) on = multiple-refl n (act (Cx control target))
multiple_gate n (Not q) on = multiple-refl n (act (Not q))

multiple_gates : (n : ℕ) (gates : List Gate) → All (IsGateOn n) gates → Multiple n (acts (without_cz gates)) (acts gates)
multiple_gates n [] on = multiple-refl n (λ f. f)
multiple_gates n (gate ∷ gates) on =
    subst (λ F. Multiple n F (acts (gate ∷ gates))) (λ i f. sym (acts-append (gate_without_cz gate) (without_cz gates) f) i)
    (multiple-then_second n (acts (gate_without_cz gate)) (acts (without_cz gates)) (act gate) (acts gates) (act-factor n gate)
    (multiple_gate n gate (All-head (IsGateOn n) gate gates on)) (multiple_gates n gates (All-tail (IsGateOn n) gate gates on)))

pub proportional_without_cz : (n : ℕ) (gates : List Gate) → All (IsGateOn n) gates → Proportional n n (amp (without_cz gates)) (amp gates)
proportional_without_cz n gates on =
    proportional_of_multiple n (amp (without_cz gates)) (acts (without_cz gates)) gates (amp-acts (without_cz gates)) (multiple_gates n gates on)
