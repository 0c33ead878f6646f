-- Lowest terms: the same fraction, without a common divisor, and only one.
use Rattle.std.proofs.Common.{◌≡◌, ℕ, zero, suc, pred, true, ◌*◌, ◌/◌, ◌<◌, ℤ, pos, negsuc, ◌*ℤ◌, neg_ℤ, nat_abs, refl, sym, ◌∙◌, ap, subst, arith}
use Prim.Native.Nat.{◌∣◌}
use Rattle.std.proofs.Math.Nat.{mul-div_cancel', mul_comm, dvd_antisymm, dvd-mul_left, mul-pos, eq_of_mul-eq-mul_right}
use Rattle.std.proofs.lemmas.Int.{unsigned_abs-mul}
use Rattle.zx_model.proofs.Whole.{neg-mul}
use Rattle.qasm_angle.specs.Ratio.{Ratio, gcd, lowest}
use Rattle.qasm_angle.proofs.GcdLemmas.{IsGcd-gcd, gcd-quotients, quotient_pos, divides_other, gcd_comm}
use Rattle.qasm_angle.proofs.RatioLemmas.{lowest-signed, nat_abs-signed}

pub lowest_pos : (a : ℤ) (b : ℕ) → 0 < b → 0 < (lowest a b).denominator
lowest_pos a b p = rw lowest-signed (quotient_pos (nat_abs a) b p)

pub lowest_coprime : (a : ℤ) (b : ℕ) → 0 < b → gcd (nat_abs (lowest a b).numerator) (lowest a b).denominator ≡ 1
lowest_coprime a b p = rw (lowest-signed, nat_abs-signed) (gcd-quotients (nat_abs a) b p)

-- (a/g) * b = a * (b/g) for a common divisor g
crossed : (a b g : ℕ) → g ∣ a → g ∣ b → a / g * b ≡ a * (b / g)
crossed a b g h k =
    let above = ap (λ x. x * (b / g)) (mul-div_cancel' g h) in
    let below = ap (λ x. a / g * x) (mul-div_cancel' g k) in
    omega (arith, above, below)

pub lowest_same : (a : ℤ) (b : ℕ) → 0 < b → (lowest a b).numerator *ℤ pos b ≡ a *ℤ pos (lowest a b).denominator
unfolding lowest
lowest_same (pos a) b p = ap pos (crossed a b (gcd a b) (IsGcd-gcd a b).0 (IsGcd-gcd a b).1)
lowest_same (negsuc a) b p =
    let g = gcd (suc a) b in
    neg-mul (pos (suc a / g)) (pos b) ∙ ap (λ x. neg_ℤ (pos x)) (crossed (suc a) b g (IsGcd-gcd (suc a) b).0 (IsGcd-gcd (suc a) b).1)

negative_pos : (n : ℕ) → 0 < n → neg_ℤ (pos n) ≡ negsuc (pred n)
negative_pos zero p = absurd (omega arith)
negative_pos (suc n) p = refl

differ : (a b : ℕ) → 0 < b → pos a ≡ neg_ℤ (pos b) → ⊥
differ a b p e = let f = e ∙ negative_pos b p in cc

pub factor_cancels : (m n : ℤ) (d : ℕ) → 0 < d → m *ℤ pos d ≡ n *ℤ pos d → m ≡ n
factor_cancels (pos a) (pos b) d p e = ap pos (eq_of_mul-eq-mul_right d p _ _ (ap nat_abs e))
factor_cancels (pos a) (negsuc b) d p e = absurd (differ (a * d) (suc b * d) (mul-pos (omega arith) p) e)
factor_cancels (negsuc a) (pos b) d p e = absurd (differ (b * d) (suc a * d) (mul-pos (omega arith) p) (sym e))
factor_cancels (negsuc a) (negsuc b) d p e =
    let sizes : suc a * d ≡ suc b * d = sym (nat_abs-signed true (suc a * d)) ∙ ap nat_abs e ∙ nat_abs-signed true (suc b * d) in
    let same : suc a ≡ suc b = eq_of_mul-eq-mul_right d p _ _ sizes in
    ap negsuc (ap pred same)

divides_denominator : (x y : Ratio) → 0 < y.denominator → gcd (nat_abs x.numerator) x.denominator ≡ 1 →
    nat_abs x.numerator * y.denominator ≡ nat_abs y.numerator * x.denominator → x.denominator ∣ y.denominator
divides_denominator x y q e sizes =
    divides_other x.denominator (nat_abs x.numerator) y.denominator q (gcd_comm x.denominator (nat_abs x.numerator) ∙ e)
    (subst (λ n. x.denominator ∣ n) (sym sizes ∙ mul_comm (nat_abs x.numerator) y.denominator) (dvd-mul_left x.denominator (nat_abs y.numerator)))

same_ratio : (m n : ℤ) (d e : ℕ) → m ≡ n → d ≡ e → ◌≡◌ {A = Ratio} (record { numerator = m; denominator = d }) (record { numerator = n; denominator = e })
same_ratio m n d e p q = ap (λ z. record { numerator = z; denominator = d }) p ∙ ap (λ k. record { numerator = n; denominator = k }) q

pub lowest_unique : (x y : Ratio) → 0 < x.denominator → 0 < y.denominator →
    gcd (nat_abs x.numerator) x.denominator ≡ 1 → gcd (nat_abs y.numerator) y.denominator ≡ 1 →
    x.numerator *ℤ pos y.denominator ≡ y.numerator *ℤ pos x.denominator → x ≡ y
lowest_unique x y p q e f g =
    let sizes : nat_abs x.numerator * y.denominator ≡ nat_abs y.numerator * x.denominator =
    sym (unsigned_abs-mul x.numerator (pos y.denominator)) ∙ ap nat_abs g ∙ unsigned_abs-mul y.numerator (pos x.denominator) in
    let below : x.denominator ≡ y.denominator = dvd_antisymm (divides_denominator x y q e sizes) (divides_denominator y x p f (sym sizes)) in
    let above : x.numerator ≡ y.numerator = factor_cancels x.numerator y.numerator x.denominator p (ap (λ d. x.numerator *ℤ pos d) below ∙ g) in
    same_ratio x.numerator y.numerator x.denominator y.denominator above below
