-- Sums over the least common multiple: what divides both terms divides what the denominators share.
use Rattle.std.proofs.Common.{◌≡◌, ℕ, suc, ◌*◌, ◌/◌, ◌<◌, ℤ, pos, negsuc, ◌+ℤ◌, ◌*ℤ◌, neg_ℤ, nat_abs, sym, ◌∙◌, ap, ap₂, subst, arith}
use Prim.Native.Nat.{◌∣◌}
use Rattle.std.proofs.lemmas.Nat.Gcd.{dvd_antisymm, dvd_refl, dvd_trans}
use Rattle.std.proofs.lemmas.Int.{unsigned_abs-mul}
use Rattle.std.proofs.Math.IntN.{+ℤ_comm, +ℤ_assoc, +ℤ_idr, +ℤ_invr}
use Rattle.std.proofs.Math.Nat.{mul-div_cancel', mul_comm, mul-pos, dvd-mul_left, dvd-mul_right}
use Rattle.zx_model.proofs.Whole.{add-mul, mul-add, mul-neg, mul_assoc}
use Rattle.qasm_angle.specs.Ratio.{Ratio, gcd, lowest, sum, IsFraction}
use Rattle.qasm_angle.proofs.GcdLemmas.{IsGcd-gcd, gcd-quotients, gcd_pos, gcd_comm, quotient_pos}
use Rattle.qasm_angle.proofs.CrossLemmas.{none_shared, by_divisors, other_factor, parts_apart, quotient_divides}
use Rattle.qasm_angle.proofs.ShortCuts.{lowest-common}

-- a divisor of a whole number is a factor of it
whole_factor : (m : ℕ) (a : ℤ) → m ∣ nat_abs a → (q : ℤ) × (a ≡ pos m *ℤ q)
whole_factor m (pos n) h = (pos (n / m), sym (ap pos (mul-div_cancel' m h)))
whole_factor m (negsuc n) h =
    (neg_ℤ (pos (suc n / m)), sym (mul-neg (pos m) (pos (suc n / m)) ∙ ap (λ k. neg_ℤ (pos k)) (mul-div_cancel' m h)))

divides_product : (m : ℕ) (q : ℤ) → m ∣ nat_abs (pos m *ℤ q)
divides_product m q = subst (λ n. m ∣ n) (sym (unsigned_abs-mul (pos m) q)) (dvd-mul_right m (nat_abs q))

divides_sum : (m : ℕ) (a b : ℤ) → m ∣ nat_abs a → m ∣ nat_abs b → m ∣ nat_abs (a +ℤ b)
divides_sum m a b h i =
    let p = whole_factor m a h in
    let q = whole_factor m b i in
    subst (λ n. m ∣ nat_abs n) (mul-add (pos m) p.0 q.0 ∙ ap₂ (λ x y. x +ℤ y) (sym p.1) (sym q.1)) (divides_product m (p.0 +ℤ q.0))

divides_opposite : (m : ℕ) (a : ℤ) → m ∣ nat_abs a → m ∣ nat_abs (neg_ℤ a)
divides_opposite m a h =
    let p = whole_factor m a h in
    subst (λ n. m ∣ nat_abs n) (mul-neg (pos m) p.0 ∙ ap neg_ℤ (sym p.1)) (divides_product m (neg_ℤ p.0))

taken_out : (a b : ℤ) → (a +ℤ b) +ℤ neg_ℤ b ≡ a
taken_out a b = +ℤ_assoc a b (neg_ℤ b) ∙ ap (λ n. a +ℤ n) (+ℤ_invr b) ∙ +ℤ_idr a

divides_summand : (m : ℕ) (a b : ℤ) → m ∣ nat_abs (a +ℤ b) → m ∣ nat_abs b → m ∣ nat_abs a
divides_summand m a b h i =
    subst (λ n. m ∣ nat_abs n) (taken_out a b) (divides_sum m (a +ℤ b) (neg_ℤ b) h (divides_opposite m b i))

-- p*u + q*v has nothing in common with v where neither p nor u has
sum_apart : (p q : ℤ) (u v : ℕ) → gcd u v ≡ 1 → gcd (nat_abs p) v ≡ 1 → gcd (nat_abs (p *ℤ pos u +ℤ q *ℤ pos v)) v ≡ 1
sum_apart p q u v e f =
    by_divisors (nat_abs (p *ℤ pos u +ℤ q *ℤ pos v)) v (λ m h i.
    let second : m ∣ nat_abs (q *ℤ pos v) = subst (λ n. m ∣ n) (sym (unsigned_abs-mul q (pos v))) (dvd_trans m i (dvd-mul_left v (nat_abs q))) in
    let first : m ∣ nat_abs p * u = subst (λ n. m ∣ n) (unsigned_abs-mul p (pos u)) (divides_summand m (p *ℤ pos u) (q *ℤ pos v) h second) in
    let apart : gcd m u ≡ 1 = by_divisors m u (λ k s t. none_shared u v k e t (dvd_trans k s i)) in
    none_shared (nat_abs p) v m f (other_factor m u (nat_abs p) apart first) i)

-- a number that has nothing in common with two factors has only the third one's divisors
pub gcd-factor : (n a b : ℕ) → gcd n a ≡ 1 → gcd n (a * b) ≡ gcd n b
gcd-factor n a b e =
    let k = gcd n (a * b) in
    let of_all = IsGcd-gcd n (a * b) in
    let of_one = IsGcd-gcd n b in
    let apart : gcd k a ≡ 1 = by_divisors k a (λ m h i. none_shared n a m e (dvd_trans m h of_all.0) i) in
    dvd_antisymm (of_one.2 k of_all.0 (other_factor k a b apart (subst (λ m. k ∣ m) (mul_comm a b) of_all.1)))
    (of_all.2 (gcd n b) of_one.0 (dvd_trans (gcd n b) of_one.1 (dvd-mul_left b a)))

module _ (x y : Ratio) where
  abbrev pub shared : ℕ
  shared = gcd x.denominator y.denominator

  abbrev pub left : ℕ
  left = x.denominator / shared

  abbrev pub right : ℕ
  right = y.denominator / shared

  abbrev pub above : ℤ
  above = x.numerator *ℤ pos right +ℤ y.numerator *ℤ pos left

module _ (x y : Ratio) (f : IsFraction x) (g : IsFraction y) where
  pub shared_pos : 0 < (shared x y)
  shared_pos = gcd_pos x.denominator y.denominator g.positive

  whole_left : (shared x y) * (left x y) ≡ x.denominator
  whole_left = mul-div_cancel' (shared x y) (IsGcd-gcd x.denominator y.denominator).0

  whole_right : (shared x y) * (right x y) ≡ y.denominator
  whole_right = mul-div_cancel' (shared x y) (IsGcd-gcd x.denominator y.denominator).1

  pub left_pos : 0 < (left x y)
  left_pos = subst (λ n. 0 < x.denominator / n) (gcd_comm y.denominator x.denominator) (quotient_pos y.denominator x.denominator f.positive)

  parts : gcd (left x y) (right x y) ≡ 1
  parts = gcd-quotients x.denominator y.denominator g.positive

  left_divides : (left x y) ∣ x.denominator
  left_divides = quotient_divides (shared x y) x.denominator (IsGcd-gcd x.denominator y.denominator).0

  right_divides : (right x y) ∣ y.denominator
  right_divides = quotient_divides (shared x y) y.denominator (IsGcd-gcd x.denominator y.denominator).1

  apart_left : gcd (nat_abs (above x y)) (left x y) ≡ 1
  apart_left =
      sum_apart x.numerator y.numerator (right x y) (left x y) (gcd_comm (right x y) (left x y) ∙ parts)
      (parts_apart (nat_abs x.numerator) x.denominator (nat_abs x.numerator) (left x y) f.lowest (dvd_refl (nat_abs x.numerator)) left_divides)

  apart_right : gcd (nat_abs (above x y)) (right x y) ≡ 1
  apart_right =
      ap (λ n. gcd (nat_abs n) (right x y)) (+ℤ_comm (x.numerator *ℤ pos (right x y)) (y.numerator *ℤ pos (left x y)))
      ∙ sum_apart y.numerator x.numerator (left x y) (right x y) parts
      (parts_apart (nat_abs y.numerator) y.denominator (nat_abs y.numerator) (right x y) g.lowest (dvd_refl (nat_abs y.numerator)) right_divides)

  -- the sum has no other divisor in common with its denominator than with what the denominators share
  pub shared_divisor : gcd (nat_abs (above x y)) ((left x y) * y.denominator) ≡ gcd (nat_abs (above x y)) (shared x y)
  shared_divisor =
      gcd-factor (nat_abs (above x y)) (left x y) y.denominator apart_left
      ∙ ap (gcd (nat_abs (above x y))) (sym whole_right ∙ mul_comm (shared x y) (right x y)) ∙ gcd-factor (nat_abs (above x y)) (right x y) (shared x y) apart_right

  pub least_sum : lowest (above x y) ((left x y) * y.denominator) ≡ sum x y
  least_sum =
      let numerator : (above x y) *ℤ pos (shared x y) ≡ x.numerator *ℤ pos y.denominator +ℤ y.numerator *ℤ pos x.denominator =
      add-mul (x.numerator *ℤ pos (right x y)) (y.numerator *ℤ pos (left x y)) (pos (shared x y))
      ∙ ap₂ (λ m n. m +ℤ n) (mul_assoc x.numerator (pos (right x y)) (pos (shared x y)) ∙ ap (λ n. x.numerator *ℤ pos n) (mul_comm (right x y) (shared x y) ∙ whole_right))
      (mul_assoc y.numerator (pos (left x y)) (pos (shared x y)) ∙ ap (λ n. y.numerator *ℤ pos n) (mul_comm (left x y) (shared x y) ∙ whole_left)) in
      let denominator : ((left x y) * y.denominator) * (shared x y) ≡ x.denominator * y.denominator =
      omega (arith, ap (λ n. n * y.denominator) whole_left) in
      sym (lowest-common (above x y) ((left x y) * y.denominator) (shared x y) (mul-pos left_pos g.positive) shared_pos) ∙ ap₂ lowest numerator denominator
