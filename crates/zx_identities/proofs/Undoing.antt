-- A list of gates followed by its inverse is the identity, up to a scalar.
use Rattle.std.proofs.Common.{◌≡◌, ◌≢◌, ℕ, zero as nought, suc, ◌+◌, ◌<◌, Bool, true, cond, ◌&&◌, ◌||◌, eqb, List, [], ◌∷◌, ◌++◌, map, reverse, append_assoc, refl, sym, ap, ap₂, ◌∙◌, subst, arith}
use Rattle.std.specs.List.{All, count_by}
use Rattle.std.proofs.lemmas.Bool.{eq-eqb}
use Rattle.std.proofs.lemmas.Grind.{reverse_onto}
use Rattle.std.proofs.lemmas.List.{map-append, reverse-append}
use Rattle.std.proofs.lemmas.List.Sums.{sum_by-append, sum_by-cons}
use Rattle.std.proofs.lemmas.List.Elements.{All-head, All-tail, All-append, All-cons, All-nil}
use Rattle.zx_model.specs.Phase.{turn, opposite_phase, sum_of_phases}
use Rattle.zx_model.specs.Number.{zero, mul}
use Rattle.zx_model.specs.Constants.{two}
use Rattle.zx_model.specs.Internal.Powers.{power_of_two}
use Rattle.zx_model.specs.Proportional.{Proportional}
use Rattle.zx_model.proofs.Powers.{power_of_two-add}
use Rattle.zx_model.proofs.Ring.{mul_assoc, one-mul, one_nonzero, two_nonzero}
use Rattle.zx_model.proofs.Domain.{mul-nonzero}
use Rattle.zx_gates.specs.Circuit.{IsGateOn}
use Rattle.zx_gates.specs.Counting.{is_h}
use Rattle.zx_gates.specs.Lowering.{phase_gates}
use Rattle.zx_gates.specs.Maps.{amp, act, acts}
use Rattle.zx_gates.specs.declared.gate.Gate.{Gate}
use Rattle.zx_gates.specs.declared.gate.Gate.TheVariants.{H, Phase, Cz, Cx, Not}
use Rattle.zx_gates.proofs.MapLemmas.{amp-acts, acts-append}
use Rattle.zx_gates.proofs.Multiples.{Multiple, act-factor, proportional_of_multiple}
use Rattle.zx_gates.proofs.Scaling.{IsTimes}
use Rattle.zx_peephole.specs.Tidy.{cancels_or_merges}
use Rattle.zx_peephole.specs.Internal.Merging.{merged, doublings}
use Rattle.zx_peephole.proofs.PairLemmas.{pair_law}
use Rattle.zx_identities.specs.Inverse.{inverse_gate, inverse_of}

-- ---- lists
pub inverse-more : (gate : Gate) (gates : List Gate) → inverse_of (gate ∷ gates) ≡ inverse_of gates ++ inverse_gate gate ∷ []
inverse-more gate gates =
    ap (map inverse_gate) (reverse_onto gates gate []) ∙ map-append inverse_gate (reverse gates) (gate ∷ [])

inverse-append : (first second : List Gate) → inverse_of (first ++ second) ≡ inverse_of second ++ inverse_of first
inverse-append first second =
    ap (map inverse_gate) (reverse-append first second) ∙ map-append inverse_gate (reverse second) (reverse first)

opposite-opposite : (k : ℕ) → k < turn → opposite_phase (opposite_phase k) ≡ k
opposite-opposite k below = omega arith

inverse-inverse_gate : (n : ℕ) (gate : Gate) → IsGateOn n gate → inverse_gate (inverse_gate gate) ≡ gate
inverse-inverse_gate n (H q) on = refl
inverse-inverse_gate n (Phase q k) on = ap (Phase q) (opposite-opposite k on.1)
inverse-inverse_gate n (Cz q r) on = refl
inverse-inverse_gate n (Cx control target) on = refl
inverse-inverse_gate n (Not q) on = refl

pub inverse-inverse : (n : ℕ) (gates : List Gate) → All (IsGateOn n) gates → inverse_of (inverse_of gates) ≡ gates
inverse-inverse n [] on = refl
inverse-inverse n (gate ∷ gates) on =
    ap inverse_of (inverse-more gate gates)
    ∙ inverse-append (inverse_of gates) (inverse_gate gate ∷ [])
    ∙ ap₂ (λ g gs. g ∷ gs) (inverse-inverse_gate n gate (All-head (IsGateOn n) gate gates on))
    (inverse-inverse n gates (All-tail (IsGateOn n) gate gates on))

opposite_on : (k : ℕ) → k < turn → k ≢ 0 → (opposite_phase k ≢ 0) × (opposite_phase k < turn)
opposite_on k below some = (λ e. some (omega arith), omega arith)

pub inverse_on : (n : ℕ) (gate : Gate) → IsGateOn n gate → IsGateOn n (inverse_gate gate)
inverse_on n (H q) on = on
inverse_on n (Phase q k) on = let o = opposite_on k on.1 on.0.1 in ((on.0.0, o.0), o.1)
inverse_on n (Cz q r) on = on
inverse_on n (Cx control target) on = on
inverse_on n (Not q) on = on

pub All-inverse : (n : ℕ) (gates : List Gate) → All (IsGateOn n) gates → All (IsGateOn n) (inverse_of gates)
All-inverse n [] on = on
All-inverse n (gate ∷ gates) on =
    subst (All (IsGateOn n)) (sym (inverse-more gate gates))
    (All-append (IsGateOn n) (inverse_of gates) (inverse_gate gate ∷ []) (All-inverse n gates (All-tail (IsGateOn n) gate gates on))
    (All-cons (IsGateOn n) (inverse_gate gate) [] (inverse_on n gate (All-head (IsGateOn n) gate gates on)) (All-nil (IsGateOn n))))

-- as many gates of a kind, where a gate and what undoes it are both of the kind or neither is
pub count-inverse : (n : ℕ) (kind : Gate → Bool) → ((gate : Gate) → IsGateOn n gate → kind (inverse_gate gate) ≡ kind gate) → (gates : List Gate)
    → All (IsGateOn n) gates → count_by kind (inverse_of gates) ≡ count_by kind gates
count-inverse n kind same [] on = refl
count-inverse n kind same (gate ∷ gates) on =
    ap (count_by kind) (inverse-more gate gates)
    ∙ sum_by-append weight (inverse_of gates) (inverse_gate gate ∷ [])
    ∙ ap₂ (λ j k. j + k) (count-inverse n kind same gates (All-tail (IsGateOn n) gate gates on))
    (sum_by-cons weight (inverse_gate gate) [] ∙ ap (λ b. cond b 1 0 + 0) (same gate (All-head (IsGateOn n) gate gates on)))
    ∙ exchanged (count_by kind gates) (weight gate)
    ∙ sym (sum_by-cons weight gate gates)
  where
    weight : Gate → ℕ
    weight g = cond (kind g) 1 0

    exchanged : (j k : ℕ) → j + (k + 0) ≡ k + j
    exchanged j k = omega arith

is_h-inverse : (n : ℕ) (gate : Gate) → IsGateOn n gate → is_h (inverse_gate gate) ≡ is_h gate
is_h-inverse n (H q) on = refl
is_h-inverse n (Phase q k) on = refl
is_h-inverse n (Cz q r) on = refl
is_h-inverse n (Cx control target) on = refl
is_h-inverse n (Not q) on = refl

-- ---- maps
pub power-nonzero : (p : ℕ) → power_of_two p ≢ zero
power-nonzero nought = one_nonzero
power-nonzero (suc p) = mul-nonzero two (power_of_two p) two_nonzero (power-nonzero p)

phases-cancel : (k : ℕ) → k < turn → sum_of_phases k (opposite_phase k) ≡ 0
phases-cancel k below = omega arith

both : (a b : Bool) → a ≡ true → b ≡ true → (a && b) ≡ true
both a b e f = ap₂ (λ s t. s && t) e f

is_pair-inverse : (gate : Gate) → cancels_or_merges gate (inverse_gate gate) ≡ true
is_pair-inverse (H q) = eq-eqb q q refl
is_pair-inverse (Phase q k) = eq-eqb q q refl
is_pair-inverse (Cz q r) = ap (λ b. b || (eqb q r && eqb r q)) (both (eqb q q) (eqb r r) (eq-eqb q q refl) (eq-eqb r r refl))
is_pair-inverse (Cx control target) = both (eqb control control) (eqb target target) (eq-eqb control control refl) (eq-eqb target target refl)
is_pair-inverse (Not q) = eq-eqb q q refl

merged-inverse : (n : ℕ) (gate : Gate) → IsGateOn n gate → merged gate (inverse_gate gate) ≡ []
merged-inverse n (H q) on = refl
merged-inverse n (Phase q k) on = ap (phase_gates q) (phases-cancel k on.1)
merged-inverse n (Cz q r) on = refl
merged-inverse n (Cx control target) on = refl
merged-inverse n (Not q) on = refl

gate_undone : (n : ℕ) (gate : Gate) → IsGateOn n gate
    → IsTimes n (power_of_two (doublings gate)) (λ f. act gate (act (inverse_gate gate) f)) (λ f. f)
gate_undone n gate on f x l =
    pair_law n gate (inverse_gate gate) (is_pair-inverse gate) on.0 f x l
    ∙ ap (λ gates. mul (power_of_two (doublings gate)) (acts gates f x)) (merged-inverse n gate on)

-- how often gates are doubled where they are undone: once for each H
abbrev pub times_doubled : List Gate → ℕ
times_doubled gates = count_by is_h gates

doubled-more : (gate : Gate) (gates : List Gate) →
    power_of_two (times_doubled (gate ∷ gates)) ≡ mul (power_of_two (times_doubled gates)) (power_of_two (doublings gate))
doubled-more gate gates =
    ap power_of_two (sum_by-cons (λ g. cond (is_h g) 1 0) gate gates ∙ exchanged (doublings gate) (times_doubled gates))
    ∙ power_of_two-add (times_doubled gates) (doublings gate)
  where
    exchanged : (j k : ℕ) → j + k ≡ k + j
    exchanged j k = omega arith

-- gates followed by their inverse give back what follows, doubled for each H
pub undone_times : (n : ℕ) (gates : List Gate) → All (IsGateOn n) gates
    → IsTimes n (power_of_two (times_doubled gates)) (acts (gates ++ inverse_of gates)) (λ f. f)
undone_times n [] on f x l = sym (one-mul (f x))
undone_times n (gate ∷ gates) on f x l =
    (λ i. act gate (inside i) x)
    ∙ act-factor n gate (power_of_two (times_doubled gates)) (acts (gates ++ inverse_of gates) (act (inverse_gate gate) f)) (act (inverse_gate gate) f)
    (λ z lz. undone_times n gates (All-tail (IsGateOn n) gate gates on) (act (inverse_gate gate) f) z lz) x l
    ∙ ap (mul (power_of_two (times_doubled gates))) (gate_undone n gate (All-head (IsGateOn n) gate gates on) f x l)
    ∙ sym (mul_assoc (power_of_two (times_doubled gates)) (power_of_two (doublings gate)) (f x))
    ∙ ap (λ k. mul k (f x)) (sym (doubled-more gate gates))
  where
    inside : acts (gates ++ inverse_of (gate ∷ gates)) f ≡ acts (gates ++ inverse_of gates) (act (inverse_gate gate) f)
    inside =
        ap (λ gs. acts gs f) (ap (λ gs. gates ++ gs) (inverse-more gate gates) ∙ sym (append_assoc gates (inverse_of gates) (inverse_gate gate ∷ [])))
        ∙ acts-append (gates ++ inverse_of gates) (inverse_gate gate ∷ []) f

pub times_doubled-inverse : (n : ℕ) (gates : List Gate) → All (IsGateOn n) gates → times_doubled (inverse_of gates) ≡ times_doubled gates
times_doubled-inverse n = count-inverse n is_h (is_h-inverse n)

undone : (n : ℕ) (gates : List Gate) → All (IsGateOn n) gates → Multiple n (acts (gates ++ inverse_of gates)) (λ f. f)
undone n gates on = record {
  factor = power_of_two (times_doubled gates);
  nonzero = power-nonzero (times_doubled gates);
  equal = undone_times n gates on;
}

pub undone_map : (n : ℕ) (gates : List Gate) → All (IsGateOn n) gates → Proportional n n (amp (gates ++ inverse_of gates)) (amp [])
undone_map n gates on =
    proportional_of_multiple n (amp (gates ++ inverse_of gates)) (acts (gates ++ inverse_of gates)) []
    (λ x y. amp-acts (gates ++ inverse_of gates) x y) (undone n gates on)
