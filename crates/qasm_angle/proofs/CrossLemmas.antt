-- Products without common divisors: what a numerator has in common with the other's denominator goes first.
use Rattle.std.proofs.Common.{◌≡◌, ℕ, zero, suc, ◌*◌, ◌/◌, ◌<◌, ℤ, pos, negsuc, ◌*ℤ◌, neg_ℤ, nat_abs, false, refl, sym, ◌∙◌, ap, ap₂, subst, arith}
use Rattle.std.specs.Prelude.{int_lt}
use Prim.Native.Nat.{◌∣◌}
use Rattle.std.proofs.lemmas.Nat.Gcd.{dvd_antisymm, dvd-zero, dvd_trans}
use Rattle.std.proofs.lemmas.Int.{unsigned_abs-mul}
use Rattle.std.proofs.Math.Nat.{mul-div_cancel', mul_comm, one-dvd, dvd-mul_left, mul-pos}
use Rattle.zx_model.proofs.Whole.{expand, mul-neg}
use Rattle.qasm_angle.specs.Ratio.{Ratio, gcd, lowest, limited, over, product, quotient, IsFraction}
use Rattle.qasm_angle.specs.Internal.Signs.{signed}
use Rattle.qasm_angle.proofs.GcdLemmas.{IsGcd-gcd, divides_other, gcd_comm}
use Rattle.qasm_angle.proofs.RatioLemmas.{lowest-signed, nat_abs-signed}
use Rattle.qasm_angle.proofs.LowestLemmas.{lowest_pos, lowest_coprime, lowest_same}
use Rattle.qasm_angle.proofs.ShortCuts.{lowest-common, both}

-- only 1 divides both
pub none_shared : (a b k : ℕ) → gcd a b ≡ 1 → k ∣ a → k ∣ b → k ≡ 1
none_shared a b k e h i = dvd_antisymm (subst (λ g. k ∣ g) e ((IsGcd-gcd a b).2 k h i)) (one-dvd k)

pub by_divisors : (a b : ℕ) → ((k : ℕ) → k ∣ a → k ∣ b → k ≡ 1) → gcd a b ≡ 1
by_divisors a b only = only (gcd a b) (IsGcd-gcd a b).0 (IsGcd-gcd a b).1

pub other_factor : (k a b : ℕ) → gcd k a ≡ 1 → k ∣ b * a → k ∣ b
other_factor k a zero e h = dvd-zero k
other_factor k a (suc b) e h = divides_other k a (suc b) (omega arith) e h

-- factors that have nothing in common with n
pub coprime-mul : (a b n : ℕ) → gcd a n ≡ 1 → gcd b n ≡ 1 → gcd (a * b) n ≡ 1
coprime-mul a b n e f =
    by_divisors (a * b) n (λ k h i.
    let apart : gcd k b ≡ 1 = by_divisors k b (λ m p q. none_shared b n m f q (dvd_trans m p i)) in
    none_shared a n k e (other_factor k b a apart h) i)

coprime-products : (a b c d : ℕ) → gcd a c ≡ 1 → gcd a d ≡ 1 → gcd b c ≡ 1 → gcd b d ≡ 1 → gcd (a * b) (c * d) ≡ 1
coprime-products a b c d e f g h =
    let left = coprime-mul a b c e g in
    let right = coprime-mul a b d f h in
    gcd_comm (a * b) (c * d) ∙ coprime-mul c d (a * b) (gcd_comm c (a * b) ∙ left) (gcd_comm d (a * b) ∙ right)

pub quotient_divides : (g a : ℕ) → g ∣ a → a / g ∣ a
quotient_divides g a h = subst (λ n. a / g ∣ n) (mul-div_cancel' g h) (dvd-mul_left (a / g) g)

numerator_divides : (a : ℤ) (b : ℕ) → nat_abs (lowest a b).numerator ∣ nat_abs a
numerator_divides a b = rw (lowest-signed, nat_abs-signed) (quotient_divides (gcd (nat_abs a) b) (nat_abs a) (IsGcd-gcd (nat_abs a) b).0)

denominator_divides : (a : ℤ) (b : ℕ) → (lowest a b).denominator ∣ b
denominator_divides a b = rw lowest-signed (quotient_divides (gcd (nat_abs a) b) b (IsGcd-gcd (nat_abs a) b).1)

-- parts of numbers that have nothing in common
pub parts_apart : (a b k m : ℕ) → gcd a b ≡ 1 → k ∣ a → m ∣ b → gcd k m ≡ 1
parts_apart a b k m e h i = by_divisors k m (λ d p q. none_shared a b d e (dvd_trans d p h) (dvd_trans d q i))

-- equal fractions have the same lowest terms
lowest_equal : (a c : ℤ) (b d : ℕ) → 0 < b → 0 < d → a *ℤ pos d ≡ c *ℤ pos b → lowest a b ≡ lowest c d
lowest_equal a c b d p q e =
    sym (lowest-common a b d p q) ∙ ap₂ lowest e (mul_comm b d) ∙ lowest-common c d b q p

crossed_terms : (a b c d e f g h : ℤ) → a *ℤ d ≡ e *ℤ c → b *ℤ f ≡ g *ℤ h → (a *ℤ b) *ℤ (f *ℤ d) ≡ (e *ℤ g) *ℤ (c *ℤ h)
crossed_terms a b c d e f g h p q =
    let first : (a *ℤ b) *ℤ (f *ℤ d) ≡ (a *ℤ d) *ℤ (b *ℤ f) = simp expand in
    let last : (e *ℤ c) *ℤ (g *ℤ h) ≡ (e *ℤ g) *ℤ (c *ℤ h) = simp expand in
    first ∙ ap₂ (λ m n. m *ℤ n) p q ∙ last

-- The product of two fractions whose denominators are exchanged.
module _ (x y : Ratio) (f : IsFraction x) (g : IsFraction y) where
  abbrev pub left : Ratio
  left = lowest x.numerator y.denominator

  abbrev pub right : Ratio
  right = lowest y.numerator x.denominator

  abbrev IsApart : Ratio → Ratio → Type 0
  IsApart l r = gcd (nat_abs (l.numerator *ℤ r.numerator)) (l.denominator * r.denominator) ≡ 1

  apart : IsApart left right
  apart =
      ap (λ n. gcd n (left.denominator * right.denominator)) (unsigned_abs-mul left.numerator right.numerator)
      ∙ coprime-products (nat_abs left.numerator) (nat_abs right.numerator) left.denominator right.denominator
      (lowest_coprime x.numerator y.denominator g.positive)
      (parts_apart _ _ _ _ f.lowest (numerator_divides x.numerator y.denominator) (denominator_divides y.numerator x.denominator))
      (parts_apart _ _ _ _ g.lowest (numerator_divides y.numerator x.denominator) (denominator_divides x.numerator y.denominator))
      (lowest_coprime y.numerator x.denominator f.positive)

  crossed : lowest (left.numerator *ℤ right.numerator) (left.denominator * right.denominator) ≡ product x y
  crossed =
      lowest_equal _ _ _ _ (mul-pos (lowest_pos x.numerator y.denominator g.positive) (lowest_pos y.numerator x.denominator f.positive)) (mul-pos f.positive g.positive)
      (crossed_terms left.numerator right.numerator (pos left.denominator) (pos y.denominator) x.numerator (pos x.denominator) y.numerator (pos right.denominator)
      (lowest_same x.numerator y.denominator g.positive) (lowest_same y.numerator x.denominator f.positive))

  pub product-apart : (l r : Ratio) → l ≡ left → r ≡ right → gcd (nat_abs (l.numerator *ℤ r.numerator)) (l.denominator * r.denominator) ≡ 1
  product-apart l r d e = both (sym d) (sym e) IsApart apart

  pub product-crossed : (l r : Ratio) → l ≡ left → r ≡ right
      → limited (lowest (l.numerator *ℤ r.numerator) (l.denominator * r.denominator)) ≡ limited (product x y)
  product-crossed l r d e =
      both (sym d) (sym e) (λ l r. limited (lowest (l.numerator *ℤ r.numerator) (l.denominator * r.denominator)) ≡ limited (product x y)) (ap limited crossed)

over-negative : (a : ℤ) (b : ℕ) → 0 < b → over a (neg_ℤ (pos b)) ≡ lowest (neg_ℤ a) b
over-negative a zero p = absurd (omega arith)
over-negative a (suc b) p = refl

-- a division is a product with the terms exchanged
pub product-inverse : (x : Ratio) (c : ℤ) (d : ℕ) → 0 < x.denominator → 0 < nat_abs c
    → product x (record { numerator = signed (int_lt c (pos 0)) d; denominator = nat_abs c }) ≡ quotient x (record { numerator = c; denominator = d })
product-inverse x (pos c) d p q = let not_below : int_lt (pos c) (pos 0) ≡ false = grind arith in rw not_below refl
product-inverse x (negsuc c) d p q =
    ap (λ n. lowest n (x.denominator * suc c)) (mul-neg x.numerator (pos d)) ∙ sym (over-negative (x.numerator *ℤ pos d) (x.denominator * suc c) (mul-pos p (omega arith)))

pub IsFraction-inverse : (c : ℤ) (d : ℕ) → 0 < nat_abs c → IsFraction (record { numerator = c; denominator = d })
    → IsFraction (record { numerator = signed (int_lt c (pos 0)) d; denominator = nat_abs c })
IsFraction-inverse c d p f = record {
  positive = p;
  lowest = rw nat_abs-signed (gcd_comm d (nat_abs c) ∙ f.lowest);
  small_numerator = rw nat_abs-signed f.small_denominator;
  small_denominator = f.small_numerator;
}
