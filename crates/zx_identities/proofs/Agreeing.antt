-- Two lists of gates other than H that agree at basis states of low weight agree at all.
use Rattle.std.proofs.Common.{◌≡◌, ◌⊎◌, inl, inr, ℕ, suc, ◌+◌, ◌*◌, ◌%◌, ◌<◌, ◌≤◌, Bool, true, false, not, ◌&&◌, List, [], ◌∷◌, ◌++◌, length, set, refl, sym, ap, ap₂, ◌∙◌, arith}
use Rattle.std.specs.Prelude.{if◌then◌else◌, IsTrue, pos}
use Rattle.std.specs.List.{All, list_all}
use Rattle.std.proofs.lemmas.Bool.{and_parts, cases_eq, eqb-true}
use Rattle.std.proofs.lemmas.List.{length-set, get_or-set_same, get_or-set_other}
use Rattle.std.proofs.lemmas.List.Elements.{All-nil, All-cons, All-head, All-tail}
use Rattle.std.proofs.lemmas.List.Folds.{list_all-append}
use Rattle.zx_model.specs.Phase.{turn, half_turn, eighth_turn, sum_of_phases}
use Rattle.zx_model.specs.Number.{Number, one, mul, root_power}
use Rattle.zx_model.specs.Bits.{xor, bit}
use Rattle.zx_model.proofs.Ring.{one-mul, mul_assoc}
use Rattle.zx_model.proofs.Powers.{root_power-sum_of_phases}
use Rattle.zx_gates.specs.Circuit.{IsGateOn, IsOnQubits}
use Rattle.zx_gates.specs.Maps.{amp}
use Rattle.zx_gates.specs.declared.gate.Gate.{Gate}
use Rattle.zx_gates.specs.declared.gate.Gate.TheVariants.{H, Phase, Cz, Cx, Not}
use Rattle.piece_laws.specs.Replacement.{AreScaled}
use Rattle.piece_laws.proofs.Replacements.{All-parts}
use Rattle.zx_identities.specs.Polynomials.{weight}
use Rattle.zx_identities.specs.BasisStates.{moved, turned, moved_by, turned_by, is_without_h, is_by_eighths, AgreeAt, AgreeUpTo}
use Rattle.zx_identities.proofs.Differences.{EndsAfter, IsAffine, Fades, decided, ends-same, ends-add, ends-opposite, ends-none, ends-phase, ends-constant}
use Rattle.zx_identities.proofs.Affine.{affine-same, affine-xor, affine-not, affine-bit}
use Rattle.zx_identities.proofs.LowWeights.{fades_eighths, fades_any}
use Rattle.zx_identities.proofs.Moving.{gates_map_basis_states}

-- ---- basis states
-- of n bits a map makes n bits, each of them affine
pub record AreAffine (n : ℕ) (m : List Bool → List Bool) : Type 0 where
  pub lengths : (x : List Bool) → length x ≡ n → length (m x) ≡ n
  pub bits : (q : ℕ) → IsAffine n (λ x. bit (m x) q)

affine-unmoved : (n : ℕ) → AreAffine n (λ x. x)
affine-unmoved n = record { lengths = λ x l. l; bits = affine-bit n }

affine-set : (n q : ℕ) (m : List Bool → List Bool) (p : List Bool → Bool) → q < n → AreAffine n m → IsAffine n p → AreAffine n (λ x. set (m x) q (p x))
affine-set n q m p below are affine = record {
  lengths = λ x l. length-set (m x) q (p x) ∙ are.lengths x l;
  bits = λ r. at r (cases_eq r q);
}
  where
    within : (k l : ℕ) → l ≡ n → q < l
    within k l e = omega arith

    at : (r : ℕ) → (r ≡ q) ⊎ (r ≡ q → ⊥) → IsAffine n (λ x. bit (set (m x) q (p x)) r)
    at r (inl e) =
        affine-same n p (λ x. bit (set (m x) q (p x)) r)
        (λ x l. sym (ap (bit (set (m x) q (p x))) e ∙ get_or-set_same (m x) q (p x) false (within 0 (length (m x)) (are.lengths x l)))) affine
    at r (inr other) =
        affine-same n (λ x. bit (m x) r) (λ x. bit (set (m x) q (p x)) r) (λ x l. sym (get_or-set_other (m x) q r (p x) false other)) (are.bits r)

affine-moved : (n : ℕ) (gate : Gate) (m : List Bool → List Bool) → IsOnQubits n gate → AreAffine n m → AreAffine n (λ x. moved gate (m x))
affine-moved n (H q) m on are = are
affine-moved n (Phase q k) m on are = are
affine-moved n (Cz q r) m on are = are
affine-moved n (Cx control target) m on are =
    affine-set n target m (λ x. xor (bit (m x) control) (bit (m x) target)) on.1 are
    (affine-xor n (λ x. bit (m x) control) (λ x. bit (m x) target) (are.bits control) (are.bits target))
affine-moved n (Not q) m on are = affine-set n q m (λ x. not (bit (m x) q)) on are (affine-not n (λ x. bit (m x) q) (are.bits q))

affine-moved_by : (n : ℕ) (gates : List Gate) (m : List Bool → List Bool) → All (IsGateOn n) gates → AreAffine n m → AreAffine n (λ x. moved_by gates (m x))
affine-moved_by n [] m on are = are
affine-moved_by n (gate ∷ gates) m on are =
    affine-moved_by n gates (λ x. moved gate (m x)) (All-tail (IsGateOn n) gate gates on)
    (affine-moved n gate m (All-head (IsGateOn n) gate gates on).0 are)

-- ---- phases
abbrev pub GateFades : ℕ → Gate → Type 0
GateFades d (Phase q k) = Fades d 0 k
GateFades d other = Unit {0}

-- Cz is a quarter turn at either bit and three at their sum
cz-phases : (p q : Bool) → (((if p then 4 else 0) + (if q then 4 else 0)) + (if xor p q then 12 else 0)) % turn ≡ (if p && q then half_turn else 0) % turn
cz-phases true true = refl
cz-phases true false = refl
cz-phases false true = refl
cz-phases false false = refl

-- after so many changes quarter turns have ended
pub record QuartersFade (d : ℕ) : Type 0 where
  pub one : Fades d 0 4
  pub three : Fades d 0 12

ends-turned : (d n : ℕ) (gate : Gate) (m : List Bool → List Bool) → QuartersFade d → GateFades d gate → AreAffine n m → EndsAfter d n (λ x. turned gate (m x))
ends-turned d n (H q) m quarters fades are = ends-none d n
ends-turned d n (Phase q k) m quarters fades are = ends-phase d n k (λ x. bit (m x) q) (are.bits q) fades
ends-turned d n (Cz q r) m quarters fades are =
    ends-same d n
    (λ x. ((if bit (m x) q then 4 else 0) + (if bit (m x) r then 4 else 0)) + (if xor (bit (m x) q) (bit (m x) r) then 12 else 0))
    (λ x. if bit (m x) q && bit (m x) r then half_turn else 0)
    (λ x l. cz-phases (bit (m x) q) (bit (m x) r))
    (ends-add d n (λ x. (if bit (m x) q then 4 else 0) + (if bit (m x) r then 4 else 0)) (λ x. if xor (bit (m x) q) (bit (m x) r) then 12 else 0)
    (ends-add d n (λ x. if bit (m x) q then 4 else 0) (λ x. if bit (m x) r then 4 else 0)
    (ends-phase d n 4 (λ x. bit (m x) q) (are.bits q) quarters.one)
    (ends-phase d n 4 (λ x. bit (m x) r) (are.bits r) quarters.one))
    (ends-phase d n 12 (λ x. xor (bit (m x) q) (bit (m x) r))
    (affine-xor n (λ x. bit (m x) q) (λ x. bit (m x) r) (are.bits q) (are.bits r)) quarters.three))
ends-turned d n (Cx control target) m quarters fades are = ends-none d n
ends-turned d n (Not q) m quarters fades are = ends-none d n

reduced : (a b : ℕ) → (a + b) % turn ≡ (sum_of_phases a b) % turn
reduced a b = omega arith

ends-turned_by : (d n : ℕ) (gates : List Gate) (m : List Bool → List Bool) → QuartersFade d → All (IsGateOn n) gates → All (GateFades d) gates
    → AreAffine n m → EndsAfter d n (λ x. turned_by gates (m x))
ends-turned_by d n [] m quarters on fade are = ends-none d n
ends-turned_by d n (gate ∷ gates) m quarters on fade are =
    ends-same d n (λ x. turned gate (m x) + turned_by gates (moved gate (m x))) (λ x. turned_by (gate ∷ gates) (m x))
    (λ x l. reduced (turned gate (m x)) (turned_by gates (moved gate (m x))))
    (ends-add d n (λ x. turned gate (m x)) (λ x. turned_by gates (moved gate (m x)))
    (ends-turned d n gate m quarters (All-head (GateFades d) gate gates fade) are)
    (ends-turned_by d n gates (λ x. moved gate (m x)) quarters (All-tail (IsGateOn n) gate gates on) (All-tail (GateFades d) gate gates fade)
    (affine-moved n gate m (All-head (IsGateOn n) gate gates on).0 are)))

pub turned_below : (gates : List Gate) (x : List Bool) → turned_by gates x < turn
turned_below [] x = omega arith
turned_below (gate ∷ gates) x = remainder (turned gate x) (turned_by gates (moved gate x))
  where
    remainder : (a b : ℕ) → sum_of_phases a b < turn
    remainder a b = omega arith

-- ---- two lists
-- the difference of two phases is none
to_none : (a k b : ℕ) → a ≡ sum_of_phases k b → (a + 15 * (k + b)) % turn ≡ 0
to_none a k b e = omega arith

from_none : (a k b : ℕ) → a < turn → (a + 15 * (k + b)) % turn ≡ 0 → a ≡ sum_of_phases k b
from_none a k b below e = omega arith

pub phases_agree : (d n k : ℕ) (a b : List Gate) → QuartersFade (suc d) → All (IsGateOn n) a → All (IsGateOn n) b → All (GateFades (suc d)) a → All (GateFades (suc d)) b
    → AgreeUpTo d n k a b → (x : List Bool) → length x ≡ n → turned_by a x ≡ sum_of_phases k (turned_by b x)
phases_agree d n k a b quarters on_a on_b fade_a fade_b agree x l =
    from_none (turned_by a x) k (turned_by b x) (turned_below a x)
    (decided (suc d) n (λ y. turned_by a y + 15 * (k + turned_by b y))
    (ends-add (suc d) n (turned_by a) (λ y. 15 * (k + turned_by b y))
    (ends-turned_by (suc d) n a (λ y. y) quarters on_a fade_a (affine-unmoved n))
    (ends-opposite (suc d) n (λ y. k + turned_by b y)
    (ends-add (suc d) n (λ y. k) (turned_by b) (ends-constant d n k) (ends-turned_by (suc d) n b (λ y. y) quarters on_b fade_b (affine-unmoved n)))))
    (λ y ly few. to_none (turned_by a y) k (turned_by b y) (agree y ly (at_most (weight y) d few)).phase)
    x l)
  where
    at_most : (w d : ℕ) → w < suc d → w ≤ d
    at_most w d few = omega arith

differ_none : (p q : Bool) → p ≡ q → (if xor p q then 8 else 0) % turn ≡ 0
differ_none true q e = ap (λ b. (if not b then 8 else 0) % turn) (sym e)
differ_none false q e = ap (λ b. (if b then 8 else 0) % turn) (sym e)

none_differ : (p q : Bool) → (if xor p q then 8 else 0) % turn ≡ 0 → p ≡ q
none_differ true true e = refl
none_differ true false e = absurd (omega arith)
none_differ false true e = absurd (omega arith)
none_differ false false e = refl

-- those with one bit set decide the bits
bits_agree : (d n k : ℕ) (a b : List Gate) → All (IsGateOn n) a → All (IsGateOn n) b → 1 ≤ d
    → AgreeUpTo d n k a b → (x : List Bool) → length x ≡ n → (q : ℕ) → bit (moved_by a x) q ≡ bit (moved_by b x) q
bits_agree d n k a b on_a on_b some agree x l q =
    none_differ (bit (moved_by a x) q) (bit (moved_by b x) q)
    (decided 2 n (λ y. if xor (bit (moved_by a y) q) (bit (moved_by b y) q) then 8 else 0)
    (ends-phase 2 n 8 (λ y. xor (bit (moved_by a y) q) (bit (moved_by b y) q))
    (affine-xor n (λ y. bit (moved_by a y) q) (λ y. bit (moved_by b y) q)
    ((affine-moved_by n a (λ y. y) on_a (affine-unmoved n)).bits q)
    ((affine-moved_by n b (λ y. y) on_b (affine-unmoved n)).bits q))
    (refl, refl))
    (λ y ly few.
    differ_none (bit (moved_by a y) q) (bit (moved_by b y) q)
    (ap (λ z. bit z q) (agree y ly (at_most (weight y) d few some)).state))
    x l)
  where
    at_most : (w d : ℕ) → w < 2 → 1 ≤ d → w ≤ d
    at_most w d few some = omega arith

-- equal bits are equal lists
same_list : (x y : List Bool) → length x ≡ length y → ((q : ℕ) → bit x q ≡ bit y q) → x ≡ y
same_list [] [] l same = refl
same_list [] (b ∷ y) l same = absurd (omega arith)
same_list (a ∷ x) [] l same = absurd (omega arith)
same_list (a ∷ x) (b ∷ y) l same = ap₂ ◌∷◌ (same 0) (same_list x y (omega arith) (λ q. same (suc q)))

pub states_agree : (d n k : ℕ) (a b : List Gate) → All (IsGateOn n) a → All (IsGateOn n) b → 1 ≤ d
    → AgreeUpTo d n k a b → (x : List Bool) → length x ≡ n → moved_by a x ≡ moved_by b x
states_agree d n k a b on_a on_b some agree x l =
    same_list (moved_by a x) (moved_by b x)
    ((affine-moved_by n a (λ y. y) on_a (affine-unmoved n)).lengths x l
    ∙ sym ((affine-moved_by n b (λ y. y) on_b (affine-unmoved n)).lengths x l))
    (bits_agree d n k a b on_a on_b some agree x l)

-- lists that agree at all basis states are scaled
scaled : (t k u : ℕ) (e : Number) → t ≡ sum_of_phases k u → mul one (mul (root_power t) e) ≡ mul (mul one (root_power k)) (mul (root_power u) e)
scaled t k u e same =
    one-mul (mul (root_power t) e)
    ∙ ap (λ s. mul (root_power s) e) same
    ∙ ap (λ s. mul s e) (root_power-sum_of_phases k u)
    ∙ mul_assoc (root_power k) (root_power u) e
    ∙ ap (λ s. mul s (mul (root_power u) e)) (sym (one-mul (root_power k)))

agree_scaled : (n k : ℕ) (a b : List Gate) → IsTrue (list_all is_without_h a) → IsTrue (list_all is_without_h b)
    → ((x : List Bool) → length x ≡ n → AgreeAt k a b x) → AreScaled n a (record { root2 = pos 0; turn = k }) b
agree_scaled n k a b without_a without_b agree = λ x y lx ly.
    ap (mul one) (gates_map_basis_states a without_a x y)
    ∙ ap (λ z. mul one (mul (root_power (turned_by a x)) (amp [] z y))) (agree x lx).state
    ∙ scaled (turned_by a x) k (turned_by b x) (amp [] (moved_by b x) y) (agree x lx).phase
    ∙ ap (mul (mul one (root_power k))) (sym (gates_map_basis_states b without_b x y))

abbrev Few : ℕ → ℕ → ℕ → List Gate → List Gate → Type 0
Few d n k a b = AgreeUpTo d n k a b → AreScaled n a (record { root2 = pos 0; turn = k }) b

few_decide : (d n k : ℕ) (a b : List Gate) → QuartersFade (suc d) → 1 ≤ d → All (IsGateOn n) a → All (IsGateOn n) b
    → All (GateFades (suc d)) a → All (GateFades (suc d)) b → IsTrue (list_all is_without_h a) → IsTrue (list_all is_without_h b) → Few d n k a b
few_decide d n k a b quarters some on_a on_b fade_a fade_b without_a without_b agree =
    agree_scaled n k a b without_a without_b
    (λ x l. record {
      state = states_agree d n k a b on_a on_b some agree x l;
      phase = phases_agree d n k a b quarters on_a on_b fade_a fade_b agree x l;
    })

-- ---- by eighths, and any phases
gate_eighths : (gate : Gate) → is_by_eighths gate ≡ true → (is_without_h gate ≡ true) × GateFades 4 gate
gate_eighths (H q) by = cc
gate_eighths (Phase q k) by = (refl, fades_eighths k (eqb-true (k % eighth_turn) 0 by))
gate_eighths (Cz q r) by = (refl, tt)
gate_eighths (Cx control target) by = (refl, tt)
gate_eighths (Not q) by = (refl, tt)

all_eighths : (gates : List Gate) → IsTrue (list_all is_by_eighths gates) → IsTrue (list_all is_without_h gates) × All (GateFades 4) gates
all_eighths [] all = (refl, All-nil (GateFades 4))
all_eighths (gate ∷ gates) all =
    let parts : (is_by_eighths gate ≡ true) × (list_all is_by_eighths gates ≡ true) = and_parts (is_by_eighths gate) (list_all is_by_eighths gates) all in
    let here : (is_without_h gate ≡ true) × GateFades 4 gate = gate_eighths gate parts.0 in
    let rest : IsTrue (list_all is_without_h gates) × All (GateFades 4) gates = all_eighths gates parts.1 in
    (ap₂ ◌&&◌ here.0 rest.0, All-cons (GateFades 4) gate gates here.1 rest.1)

gate_any : (gate : Gate) → GateFades 5 gate
gate_any (H q) = tt
gate_any (Phase q k) = fades_any k
gate_any (Cz q r) = tt
gate_any (Cx control target) = tt
gate_any (Not q) = tt

all_any : (gates : List Gate) → All (GateFades 5) gates
all_any [] = All-nil (GateFades 5)
all_any (gate ∷ gates) = All-cons (GateFades 5) gate gates (gate_any gate) (all_any gates)

pub eighths_agree : (n k : ℕ) (a b : List Gate) → All (IsGateOn n) (a ++ b) → IsTrue (list_all is_by_eighths (a ++ b)) → Few 3 n k a b
eighths_agree n k a b on by =
    let each : All (IsGateOn n) a × All (IsGateOn n) b = All-parts (IsGateOn n) a b on in
    let parts : (list_all is_by_eighths a ≡ true) × (list_all is_by_eighths b ≡ true) =
    and_parts (list_all is_by_eighths a) (list_all is_by_eighths b) (sym (list_all-append is_by_eighths a b) ∙ by) in
    let of_a : IsTrue (list_all is_without_h a) × All (GateFades 4) a = all_eighths a parts.0 in
    let of_b : IsTrue (list_all is_without_h b) × All (GateFades 4) b = all_eighths b parts.1 in
    few_decide 3 n k a b (record { one = (refl, refl); three = (refl, refl) }) (omega arith) each.0 each.1 of_a.1 of_b.1 of_a.0 of_b.0

pub any_agree : (n k : ℕ) (a b : List Gate) → All (IsGateOn n) (a ++ b) → IsTrue (list_all is_without_h (a ++ b)) → Few 4 n k a b
any_agree n k a b on without =
    let each : All (IsGateOn n) a × All (IsGateOn n) b = All-parts (IsGateOn n) a b on in
    let parts : (list_all is_without_h a ≡ true) × (list_all is_without_h b ≡ true) =
    and_parts (list_all is_without_h a) (list_all is_without_h b) (sym (list_all-append is_without_h a b) ∙ without) in
    few_decide 4 n k a b (record { one = (refl, refl); three = (refl, refl) }) (omega arith) each.0 each.1 (all_any a) (all_any b) parts.0 parts.1
