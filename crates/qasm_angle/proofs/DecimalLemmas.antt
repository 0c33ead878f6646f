-- Fractions with a power of ten: common factors go, and what is past the limit stays so.
use Rattle.std.proofs.Common.{◌≡◌, ℕ, ◌+◌, ◌-◌, ◌*◌, ◌/◌, ◌^◌, ◌<◌, ◌≤◌, ◌⊎◌, pos, Some, None, refl, sym, ◌∙◌, ap, subst, inl, inr, arith, lit≤, lit<, zero-le}
use Prim.Native.Nat.{◌∣◌}
use mir.Val.{to_z}
use mir.Syntax.{w128}
use Rattle.std.proofs.lemmas.Int.{to_z_pos}
use Rattle.std.proofs.Math.Nat.{mul-div-mul_left, mul-div_cancel', mul_comm, mul_assoc, mul-one, one-mul, le_of_dvd, dvd_trans, eq-one_of_dvd-one, le-div_iff_mul-le, mul-le-mul_left, mul-le-mul_right, div-one, div-le_self, div_self, zero-div, zero-mod, zero-mul, le-mul_of_pos_right, mul-pos, pow-le-pow_right}
use Rattle.std.proofs.lemmas.Nat.{pow-add}
use Rattle.qasm_angle.specs.Ratio.{gcd, lowest, limited, largest, whole}
use Rattle.qasm_angle.proofs.GcdLemmas.{IsGcd-gcd, gcd_pos, gcd-zero, gcd-step, gcd-mul, gcd-quotients, divides_other, quotient_pos}
use Rattle.qasm_angle.proofs.RatioLemmas.{limited-none, limited-some}

-- a common factor goes
pub lowest-cancel : (c a b : ℕ) → 0 < c → lowest (pos (c * a)) (c * b) ≡ lowest (pos a) b
unfolding lowest
lowest-cancel c a b p =
    rw (gcd-mul c a b p, mul-div-mul_left a (gcd a b) p, mul-div-mul_left b (gcd a b) p) refl

pub ten_pow_pos : (k : ℕ) → 0 < 10 ^ k
ten_pow_pos k = pow-le-pow_right (lit< tt) zero-le

pub lowest-raised : (leading down e : ℕ) → lowest (pos (leading * 10 ^ (down + e))) (10 ^ down) ≡ lowest (pos (leading * 10 ^ e)) 1
lowest-raised leading down e =
    ap (λ x. lowest (pos x) (10 ^ down)) (ap (λ x. leading * x) (pow-add 10 down e) ∙ regroup leading (10 ^ down) (10 ^ e))
    ∙ ap (lowest (pos (10 ^ down * (leading * 10 ^ e)))) (sym (mul-one (10 ^ down)))
    ∙ lowest-cancel (10 ^ down) (leading * 10 ^ e) 1 (ten_pow_pos down)
  where
    regroup : (a b c : ℕ) → a * (b * c) ≡ b * (a * c)
    regroup a b c = omega arith

pub lowest-lowered : (leading up k : ℕ) → lowest (pos (leading * 10 ^ up)) (10 ^ (up + k)) ≡ lowest (pos leading) (10 ^ k)
lowest-lowered leading up k =
    ap (λ x. lowest (pos x) (10 ^ (up + k))) (mul_comm leading (10 ^ up)) ∙ ap (lowest (pos (10 ^ up * leading))) (pow-add 10 up k) ∙ lowest-cancel (10 ^ up) leading (10 ^ k) (ten_pow_pos up)

gcd-one : (n : ℕ) → gcd n 1 ≡ 1
gcd-one n = eq-one_of_dvd-one (IsGcd-gcd n 1).1

pub lowest-one : (n : ℕ) → lowest (pos n) 1 ≡ record { numerator = pos n; denominator = 1 }
unfolding lowest
lowest-one n = simp (gcd-one, div-one)

-- a whole number past the limit
pub none-whole : (n : ℕ) → largest < n → limited (lowest (pos n) 1) ≡ None
none-whole n h = rw lowest-one (limited-none _ (inl h))

-- the denominator of a quotient
denominator-lowest : (m b : ℕ) → (lowest (pos m) b).denominator ≡ b / gcd m b
unfolding lowest
denominator-lowest m b = refl

-- a quotient by much more than the number
pub none-small : (m b : ℕ) → 0 < m → (largest + 1) * m ≤ b → limited (lowest (pos m) b) ≡ None
none-small m b p h =
    let divisor = gcd m b in
    let small : divisor ≤ m = le_of_dvd p (IsGcd-gcd m b).0 in
    let positive : 0 < b = omega (arith, h) in
    let large : largest + 1 ≤ b / divisor = (le-div_iff_mul-le (gcd_pos m b positive)).1 (omega (arith, h, mul-le-mul_left (largest + 1) small)) in
    limited-none (lowest (pos m) b) (inr (rw denominator-lowest (omega (arith, large))))

-- Where n and d have no common factor, another divisor makes the denominator no smaller.
denominator_kept : (n d t : ℕ) → gcd n d ≡ 1 → 0 < d → 0 < t → d ≤ (lowest (pos n) (d * t)).denominator
denominator_kept n d t lowest_terms positive some =
    let x = gcd n (d * t) in
    let divides = IsGcd-gcd n (d * t) in
    let common = IsGcd-gcd x d in
    let alone : gcd x d ≡ 1 = eq-one_of_dvd-one (subst (λ y. gcd x d ∣ y) lowest_terms ((IsGcd-gcd n d).2 (gcd x d) (dvd_trans (gcd x d) common.0 divides.0) common.1)) in
    let small : x ≤ t = le_of_dvd some (divides_other x d t some alone (subst (λ y. x ∣ y) (mul_comm d t) divides.1)) in
    rw denominator-lowest ((le-div_iff_mul-le (gcd_pos n (d * t) (mul-pos positive some))).1 (mul-le-mul_left d small))

module _ (m b t : ℕ) (positive : 0 < b) (some : 0 < t) where
  -- first divided by b, and then by t
  pub lowest-twice : lowest (pos m) (b * t) ≡ lowest (pos (m / gcd m b)) ((b / gcd m b) * t)
  lowest-twice =
      let g = gcd m b in
      let above : g * (m / g) ≡ m = mul-div_cancel' g (IsGcd-gcd m b).0 in
      let below : g * (b / g) ≡ b = mul-div_cancel' g (IsGcd-gcd m b).1 in
      ap (λ x. lowest (pos x) (b * t)) (sym above) ∙ ap (λ x. lowest (pos (g * (m / g))) x) (ap (λ x. x * t) (sym below) ∙ mul_assoc g (b / g) t) ∙ lowest-cancel g (m / g) ((b / g) * t) (gcd_pos m b positive)

  -- the first division leaves too large a denominator, and the second one doesn't make it smaller
  pub none-twice : largest < b / gcd m b → limited (lowest (pos m) (b * t)) ≡ None
  none-twice h =
      let kept = denominator_kept (m / gcd m b) (b / gcd m b) t (gcd-quotients m b positive) (quotient_pos m b positive) some in
      ap limited lowest-twice ∙ limited-none (lowest (pos (m / gcd m b)) (b / gcd m b * t)) (inr (omega (arith, kept)))

-- ten to a higher power is no smaller
pub ten_pow_mono : (j k : ℕ) → j ≤ k → 10 ^ j ≤ 10 ^ k
ten_pow_mono j k h = pow-le-pow_right (lit< tt) h

pub none-raised : (leading tens : ℕ) → 0 < leading → (largest < leading) ⊎ (18 < tens) → None ≡ limited (lowest (pos (leading * 10 ^ tens)) 1)
none-raised leading tens p (inl h) = sym (none-whole _ (omega (arith, le-mul_of_pos_right leading (ten_pow_pos tens))))
none-raised leading tens p (inr h) = sym (none-whole _ (omega (arith, ten_pow_mono 19 tens h, mul-le-mul_right (10 ^ tens) p, one-mul (10 ^ tens))))

pub lowered_in_two : (leading tens first second : ℕ) → 38 ≤ tens → first ≡ 10 ^ 38 → second ≡ 10 ^ (tens - 38) → limited (lowest (pos leading) (first * second)) ≡ limited (lowest (pos leading) (10 ^ tens))
lowered_in_two leading tens first second h e f =
    let sum : 38 + (tens - 38) ≡ tens = omega arith in
    ap (λ x. limited (lowest (pos leading) x)) (ap (λ x. x * second) e ∙ ap (λ x. 10 ^ 38 * x) f ∙ sym (pow-add 10 38 (tens - 38)) ∙ ap (λ x. 10 ^ x) sum)

pub none-lowered : (leading tens : ℕ) → 0 < leading → leading < 10 ^ 38 → 57 ≤ tens → None ≡ limited (lowest (pos leading) (10 ^ tens))
none-lowered leading tens p h q = sym (none-small leading (10 ^ tens) p (omega (arith, ten_pow_mono 57 tens q)))

lowest-zero : (b : ℕ) → 0 < b → lowest (pos 0) b ≡ whole (pos 0)
unfolding lowest
lowest-zero b p =
    let divisor : gcd 0 b ≡ b = gcd-step 0 b p ∙ ap (gcd b) (zero-mod b) ∙ gcd-zero b in
    rw (divisor, zero-div, div_self p) refl

pub zero-scaled : (leading raised lowered : ℕ) → leading ≡ 0 → Some (whole (pos 0)) ≡ limited (lowest (pos (leading * 10 ^ raised)) (10 ^ lowered))
zero-scaled leading raised lowered e =
    let none : leading * 10 ^ raised ≡ 0 = ap (λ x. x * 10 ^ raised) e ∙ zero-mul (10 ^ raised) in
    rw (none, lowest-zero (10 ^ lowered) (ten_pow_pos lowered)) (sym (limited-some (whole (pos 0)) zero-le (lit≤ tt)))

pub raised-scaled : (leading raised lowered : ℕ) → lowered ≤ raised → limited (lowest (pos (leading * 10 ^ (raised - lowered))) 1) ≡ limited (lowest (pos (leading * 10 ^ raised)) (10 ^ lowered))
raised-scaled leading raised lowered h =
    let sum : lowered + (raised - lowered) ≡ raised = omega arith in
    ap limited (sym (lowest-raised leading lowered (raised - lowered)) ∙ ap (λ x. lowest (pos (leading * 10 ^ x)) (10 ^ lowered)) sum)

pub lowered-scaled : (leading raised lowered : ℕ) → raised ≤ lowered → limited (lowest (pos leading) (10 ^ (lowered - raised))) ≡ limited (lowest (pos (leading * 10 ^ raised)) (10 ^ lowered))
lowered-scaled leading raised lowered h =
    let sum : raised + (lowered - raised) ≡ lowered = omega arith in
    ap limited (sym (lowest-lowered leading raised (lowered - raised)) ∙ ap (λ x. lowest (pos (leading * 10 ^ raised)) (10 ^ x)) sum)

-- what the code computes by two divisions
pub computed-twice : (leading first second g : ℕ) → leading < 2 ^ 127 → 0 < first → 0 < second → g ≡ gcd leading first →
    limited (lowest (to_z w128 (leading / g)) ((first / g) * second)) ≡ limited (lowest (pos leading) (first * second))
computed-twice leading first second g small p q e =
    let fits : leading / g < 2 ^ 127 = omega (arith, div-le_self leading g) in
    rw (to_z_pos w128 (leading / g) fits, e) (ap limited (sym (lowest-twice leading first second p q)))
