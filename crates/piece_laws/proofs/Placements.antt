-- What gates of a small circuit do on the qubits of a larger one.
use Rattle.std.proofs.Common.{◌≡◌, ◌≢◌, ◌≤◌, ◌<◌, inl, inr, ◌+◌, ℕ, zero, suc, Bool, false, true, cond, ◌&&◌, eqb, List, [], ◌∷◌, map, length, set, refl, sym, ap, ap₂, ◌∙◌, subst, arith}
use Rattle.std.specs.List.{All, AllByRecursion, IsDistinct, sum_by}
use Rattle.std.proofs.lemmas.Bool.{eqb-false}
use Rattle.std.proofs.lemmas.List.{length-map, length-set, get_or-map, get_or-set_same, get_or-set_other, set-get_or, set-set, set_comm}
use Rattle.std.proofs.lemmas.List.Elements.{All-cons, All-from_recursion, All-get_or, All-head, All-nil, All-tail}
use Rattle.std.proofs.lemmas.List.Folds.{fold-map}
use Rattle.std.proofs.lemmas.Map.Keys.{IsDistinct-head, IsDistinct-tail}
use Rattle.zx_model.specs.Number.{Number, one, add, mul, sign}
use Rattle.zx_model.specs.Bits.{xor, bit}
use Rattle.zx_model.specs.Proportional.{Proportional}
use Rattle.zx_model.proofs.Ring.{one-mul}
use Rattle.zx_gates.specs.Circuit.{IsGateOn, is_odd_phase}
use Rattle.zx_gates.specs.Counting.{is_two_qubit}
use Rattle.zx_gates.specs.Maps.{Matrix, hadamard, phase, exchange, amp, act, acts, act_on}
use Rattle.zx_gates.specs.declared.gate.Gate.{Gate}
use Rattle.zx_gates.specs.declared.gate.Gate.TheVariants.{H, Phase, Cz, Cx, Not}
use Rattle.zx_gates.proofs.MapLemmas.{amp-acts}
use Rattle.piece_laws.specs.Places.{ArePlaces, place, placed_gate, placed}
use Rattle.piece_laws.specs.Replacement.{IsReplacement}
use Rattle.piece_laws.proofs.Matrices.{AreMultiples, acts-factor, multiples-acts}

-- ---- places that differ
other_place : (p : ℕ) (places : List ℕ) (q : ℕ) → IsDistinct eqb (p ∷ places) → q < length places → p ≢ place places q
other_place p places q apart within =
    eqb-false p (place places q)
    (All-get_or (λ r. eqb p r ≡ false) places q 0 within (All-from_recursion (λ r. eqb p r ≡ false) places (IsDistinct-head eqb p places apart)))

places_differ : (places : List ℕ) (q r : ℕ) → IsDistinct eqb places → q < length places → r < length places → q ≢ r → place places q ≢ place places r
places_differ [] q r apart low below differ = absurd (omega arith)
places_differ (p ∷ places) zero zero apart low below differ = absurd (differ refl)
places_differ (p ∷ places) zero (suc r) apart low below differ = other_place p places r apart (omega arith)
places_differ (p ∷ places) (suc q) zero apart low below differ = λ e. other_place p places q apart (omega arith) (sym e)
places_differ (p ∷ places) (suc q) (suc r) apart low below differ =
    places_differ places q r (IsDistinct-tail eqb p places apart) (omega arith) (omega arith) (λ e. differ (ap (λ k. suc k) e))

-- ---- the bits at the places
abbrev bits_at : List ℕ → List Bool → List Bool
bits_at places x = map (bit x) places

-- with these bits at the places
abbrev with_bits : List ℕ → List Bool → List Bool → List Bool
with_bits [] z x = x
with_bits (p ∷ places) [] x = x
with_bits (p ∷ places) (b ∷ z) x = with_bits places z (set x p b)

bit-place : (places : List ℕ) (x : List Bool) (q : ℕ) → q < length places → bit (bits_at places x) q ≡ bit x (place places q)
bit-place places x q within = get_or-map (bit x) places q 0 false within

-- a bit elsewhere isn't seen
bits_at-other : (places : List ℕ) (x : List Bool) (p : ℕ) (b : Bool) → AllByRecursion (λ r. eqb p r ≡ false) places → bits_at places (set x p b) ≡ bits_at places x
bits_at-other [] x p b off = refl
bits_at-other (r ∷ places) x p b off =
    ap₂ (λ c cs. c ∷ cs) (get_or-set_other x p r b false (λ e. eqb-false p r off.0 (sym e))) (bits_at-other places x p b off.1)

bits_at-set : (places : List ℕ) (x : List Bool) (q : ℕ) (b : Bool) → IsDistinct eqb places → q < length places → All (λ p. p < length x) places
    → bits_at places (set x (place places q) b) ≡ set (bits_at places x) q b
bits_at-set [] x q b apart within low = absurd (omega arith)
bits_at-set (p ∷ places) x zero b apart within low =
    ap₂ (λ c cs. c ∷ cs) (get_or-set_same x p b false (All-head (λ p. p < length x) p places low))
    (bits_at-other places x p b (IsDistinct-head eqb p places apart))
bits_at-set (p ∷ places) x (suc q) b apart within low =
    ap₂ (λ c cs. c ∷ cs) (get_or-set_other x (place places q) p b false (other_place p places q apart (omega arith)))
    (bits_at-set places x q b (IsDistinct-tail eqb p places apart) (omega arith) (All-tail (λ p. p < length x) p places low))

-- a bit at one of the places is written over
with_bits-set : (places : List ℕ) (z x : List Bool) (q : ℕ) (b : Bool) → IsDistinct eqb places → q < length places → length z ≡ length places
    → with_bits places z (set x (place places q) b) ≡ with_bits places z x
with_bits-set [] z x q b apart within l = absurd (omega arith)
with_bits-set (p ∷ places) [] x q b apart within l = absurd (omega arith)
with_bits-set (p ∷ places) (c ∷ z) x zero b apart within l = ap (with_bits places z) (set-set x p b c)
with_bits-set (p ∷ places) (c ∷ z) x (suc q) b apart within l =
    ap (with_bits places z) (set_comm x (place places q) p b c (λ e. other_place p places q apart (omega arith) (sym e)))
    ∙ with_bits-set places z (set x p c) q b (IsDistinct-tail eqb p places apart) (omega arith) (omega arith)

with_bits-same : (places : List ℕ) (x : List Bool) → with_bits places (bits_at places x) x ≡ x
with_bits-same [] x = refl
with_bits-same (p ∷ places) x =
    ap (with_bits places (bits_at places x)) (set-get_or x p false) ∙ with_bits-same places x

-- ---- maps
-- gates of so many bits make the same of functions that agree there
acts-same : (n : ℕ) (gates : List Gate) (f g : List Bool → Number) → ((z : List Bool) → length z ≡ n → f z ≡ g z)
    → (x : List Bool) → length x ≡ n → acts gates f x ≡ acts gates g x
acts-same n gates f g same x l = acts-factor n gates one f g (λ z lz. same z lz ∙ sym (one-mul (g z))) x l ∙ one-mul (acts gates g x)

-- one gate more in front
placed_step : (places : List ℕ) (n : ℕ) → IsDistinct eqb places → All (λ p. p < n) places → (gate : Gate) → IsGateOn (length places) gate → (gates : List Gate)
    → (f : List Bool → Number)
    → ((y : List Bool) → length y ≡ n → acts (placed places gates) f y ≡ acts gates (λ z. f (with_bits places z y)) (bits_at places y))
    → (x : List Bool) → length x ≡ n
    → act (placed_gate places gate) (acts (placed places gates) f) x ≡ act gate (acts gates (λ z. f (with_bits places z x))) (bits_at places x)
placed_step places n apart low gate on gates f deeper x l = at gate on
  where
    after : List Bool → Number
    after = acts (placed places gates) f

    within : List Bool → Number
    within = acts gates (λ z. f (with_bits places z x))

    bits : List Bool
    bits = bits_at places x

    written : (q : ℕ) (b : Bool) → q < length places → after (set x (place places q) b) ≡ within (set bits q b)
    written q b below =
        deeper (set x (place places q) b) (length-set x (place places q) b ∙ l)
        ∙ acts-same (length places) gates (λ z. f (with_bits places z (set x (place places q) b))) (λ z. f (with_bits places z x))
        (λ z lz. ap f (with_bits-set places z x q b apart below lz))
        (bits_at places (set x (place places q) b)) (length-map places (bit (set x (place places q) b)))
        ∙ ap within (bits_at-set places x q b apart below (subst (λ m. All (λ p. p < m) places) (sym l) low))

    on_one : (m : Matrix) (q : ℕ) → q < length places → act_on m (place places q) after x ≡ act_on m q within bits
    on_one m q below =
        ap₂ (λ s t. add (mul (m false (bit x (place places q))) s) (mul (m true (bit x (place places q))) t)) (written q false below) (written q true below)
        ∙ ap (λ b. add (mul (m false b) (within (set bits q false))) (mul (m true b) (within (set bits q true)))) (sym (bit-place places x q below))

    at : (g : Gate) → IsGateOn (length places) g → act (placed_gate places g) after x ≡ act g within bits
    at (H q) o = on_one hadamard q o.0
    at (Phase q k) o = on_one (phase k) q o.0.0
    at (Not q) o = on_one exchange q o.0
    at (Cz q r) o =
        ap₂ (λ s t. mul (sign s) t) (sym (ap₂ (λ a b. a && b) (bit-place places x q o.0.0) (bit-place places x r o.0.1))) (deeper x l)
    at (Cx control target) o =
        written target (xor (bit x (place places control)) (bit x (place places target))) o.0.1
        ∙ ap (λ b. within (set bits target b)) (sym (ap₂ xor (bit-place places x control o.0.0) (bit-place places x target o.0.1)))

-- what gates make of a function of the larger circuit's bits, as one of the bits at the places
acts-placed : (places : List ℕ) (n : ℕ) → IsDistinct eqb places → All (λ p. p < n) places → (gates : List Gate) → All (IsGateOn (length places)) gates
    → (f : List Bool → Number) (x : List Bool) → length x ≡ n
    → acts (placed places gates) f x ≡ acts gates (λ z. f (with_bits places z x)) (bits_at places x)
acts-placed places n apart low [] on f x l = ap f (sym (with_bits-same places x))
acts-placed places n apart low (gate ∷ gates) on f x l =
    placed_step places n apart low gate (All-head (IsGateOn (length places)) gate gates on) gates f
    (λ y ly. acts-placed places n apart low gates (All-tail (IsGateOn (length places)) gate gates on) f y ly) x l

pub placed_multiples : (places : List ℕ) (n : ℕ) → IsDistinct eqb places → All (λ p. p < n) places → (old new : List Gate)
    → All (IsGateOn (length places)) old → All (IsGateOn (length places)) new → (d e : Number)
    → AreMultiples (length places) d e (amp old) (amp new) → AreMultiples n d e (amp (placed places old)) (amp (placed places new))
placed_multiples places n apart low old new on on' d e same = λ x y lx ly.
    ap (mul d) (amp-acts (placed places old) x y ∙ acts-placed places n apart low old on (λ z. amp [] z y) x lx)
    ∙ multiples-acts (length places) old new d e same (λ z. amp [] (with_bits places z x) y) (bits_at places x) (length-map places (bit x))
    ∙ ap (mul e) (sym (amp-acts (placed places new) x y ∙ acts-placed places n apart low new on' (λ z. amp [] z y) x lx))

placed_map : (places : List ℕ) (n : ℕ) → IsDistinct eqb places → All (λ p. p < n) places → (old new : List Gate)
    → All (IsGateOn (length places)) old → All (IsGateOn (length places)) new
    → Proportional (length places) (length places) (amp old) (amp new) → Proportional n n (amp (placed places old)) (amp (placed places new))
placed_map places n apart low old new on on' p = record {
  left = p.left;
  right = p.right;
  left_nonzero = p.left_nonzero;
  right_nonzero = p.right_nonzero;
  equal = placed_multiples places n apart low old new on on' p.left p.right p.equal;
}

-- ---- qubits and counts
pub placed_gate_on : (places : List ℕ) (n : ℕ) → IsDistinct eqb places → All (λ p. p < n) places → (gate : Gate) → IsGateOn (length places) gate
    → IsGateOn n (placed_gate places gate)
placed_gate_on places n apart low gate o = at gate o
  where
    below : (q : ℕ) → q < length places → place places q < n
    below q within = All-get_or (λ p. p < n) places q 0 within low

    at : (g : Gate) → IsGateOn (length places) g → IsGateOn n (placed_gate places g)
    at (H q) on = (below q on.0, tt)
    at (Phase q k) on = ((below q on.0.0, on.0.1), on.1)
    at (Not q) on = (below q on.0, tt)
    at (Cz q r) on = ((below q on.0.0, below r on.0.1, places_differ places q r apart on.0.0 on.0.1 on.0.2), tt)
    at (Cx q r) on = ((below q on.0.0, below r on.0.1, places_differ places q r apart on.0.0 on.0.1 on.0.2), tt)

placed_on : (places : List ℕ) (n : ℕ) → IsDistinct eqb places → All (λ p. p < n) places → (gates : List Gate) → All (IsGateOn (length places)) gates
    → All (IsGateOn n) (placed places gates)
placed_on places n apart low [] on = All-nil (IsGateOn n)
placed_on places n apart low (gate ∷ gates) on =
    All-cons (IsGateOn n) (placed_gate places gate) (placed places gates)
    (placed_gate_on places n apart low gate (All-head (IsGateOn (length places)) gate gates on))
    (placed_on places n apart low gates (All-tail (IsGateOn (length places)) gate gates on))

-- a gate stays of its kind
placed_kind : (places : List ℕ) (gate : Gate)
    → (is_odd_phase (placed_gate places gate) ≡ is_odd_phase gate) × (is_two_qubit (placed_gate places gate) ≡ is_two_qubit gate)
placed_kind places (H q) = (refl, refl)
placed_kind places (Phase q k) = (refl, refl)
placed_kind places (Cz q r) = (refl, refl)
placed_kind places (Cx q r) = (refl, refl)
placed_kind places (Not q) = (refl, refl)

-- as many pass a test that doesn't look at the qubits
count-placed : (places : List ℕ) (test : Gate → Bool) → ((gate : Gate) → test (placed_gate places gate) ≡ test gate) → (gates : List Gate)
    → sum_by (λ gate. cond (test gate) 1 0) (placed places gates) ≡ sum_by (λ gate. cond (test gate) 1 0) gates
count-placed places test same gates =
    fold-map (λ a gate. a + cond (test gate) 1 0) (placed_gate places) 0 gates
    ∙ ap (λ (f : Gate → Bool). sum_by (λ gate. cond (f gate) 1 0) gates) (λ i gate. same gate i)

pub placed_replacement : (n : ℕ) (places : List ℕ) (old new : List Gate) → ArePlaces n places → All (IsGateOn (length places)) old
    → IsReplacement (length places) old new → IsReplacement n (placed places old) (placed places new)
placed_replacement n places old new are on r = record {
  on_qubits = placed_on places n are.distinct are.below new r.on_qubits;
  map = placed_map places n are.distinct are.below old new on r.on_qubits r.map;
  odd = at_most (odd_placed new) (odd_placed old) r.odd;
  size =
      elim r.size [
        | inl less ↦ inl (below (two_placed new) (two_placed old) less)
        | inr same ↦ inr (
          two_placed new ∙ same.0 ∙ sym (two_placed old),
          at_most (length-map new (placed_gate places)) (length-map old (placed_gate places)) same.1,
        )
      ];
}
  where
    odd_placed : (gates : List Gate)
        → sum_by (λ gate. cond (is_odd_phase gate) 1 0) (placed places gates) ≡ sum_by (λ gate. cond (is_odd_phase gate) 1 0) gates
    odd_placed = count-placed places is_odd_phase (λ gate. (placed_kind places gate).0)

    two_placed : (gates : List Gate)
        → sum_by (λ gate. cond (is_two_qubit gate) 1 0) (placed places gates) ≡ sum_by (λ gate. cond (is_two_qubit gate) 1 0) gates
    two_placed = count-placed places is_two_qubit (λ gate. (placed_kind places gate).1)

    at_most : {j k l m : ℕ} → j ≡ k → l ≡ m → k ≤ m → j ≤ l
    at_most e e' less = omega arith

    below : {j k l m : ℕ} → j ≡ k → l ≡ m → k < m → j < l
    below e e' less = omega arith
