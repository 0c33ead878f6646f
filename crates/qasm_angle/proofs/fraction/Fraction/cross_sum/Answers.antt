-- The products and their sum fit, so the sum is that of the fractions, and it is divided by what divides both terms.
use Rattle.std.proofs.Common.{◌≡◌, ℕ, ◌*◌, ◌/◌, ◌%◌, ◌<◌, ◌≤◌, ℤ, pos, ◌+ℤ◌, ◌*ℤ◌, nat_abs, sym, ◌∙◌, ap, ap₂, arith}
use Rattle.std.proofs.lemmas.Int.{to_z-of_z, to_z_pos, fits_signed_from_abs, ints}
use mir.Val.{of_z, to_z}
use mir.Syntax.{w64, w128}
use Rattle.qasm_angle.specs.Ratio.{Ratio, gcd, limited, lowest, largest, sum, IsFraction}
use Rattle.qasm_angle.proofs.RatioLemmas.{SFits-small, quotient_small}
use Rattle.qasm_angle.proofs.GcdLemmas.{gcd_pos, gcd-step}
use Rattle.std.proofs.Math.Nat.{mod-lt, mul-pos}
use Rattle.qasm_angle.proofs.SumLemmas.{above, left_pos, shared_pos, shared_divisor, least_sum}
use Rattle.qasm_angle.proofs.fraction.Fraction.cross_sum.Goals as goal

product_is : (n : ℤ) (d : ℕ) → nat_abs n ≤ largest → d ≤ largest → to_z w64 (of_z w64 n) *ℤ to_z w64 d ≡ n *ℤ pos d
product_is n d p q = ap₂ (λ x y. x *ℤ y) (to_z-of_z w64 n (SFits-small n p)) (to_z_pos w64 d (omega arith))

longer : (a : ℤ) → nat_abs a ≤ largest * largest → to_z w128 (of_z w128 a) ≡ a
longer a p = to_z-of_z w128 a (fits_signed_from_abs w128 a (omega arith))

sum_is : (a b : ℤ) → nat_abs a ≤ largest * largest → nat_abs b ≤ largest * largest
    → to_z w128 (of_z w128 (to_z w128 (of_z w128 a) +ℤ to_z w128 (of_z w128 b))) ≡ a +ℤ b
sum_is a b p q =
    ap (λ (m : ℤ). to_z w128 (of_z w128 m)) (ap₂ (λ x y. x +ℤ y) (longer a p) (longer b q))
    ∙ to_z-of_z w128 (a +ℤ b) (fits_signed_from_abs w128 (a +ℤ b) (omega (arith, ints)))

-- what is told of the products, of what the denominators share, and of the divisor
module _ (x y : Ratio) (f : IsFraction x) (g : IsFraction y) (s : ℕ) (shared_is : s ≡ gcd x.denominator y.denominator)
    (l r : ℤ) (left_told : l ≡ to_z w64 (of_z w64 x.numerator) *ℤ to_z w64 (y.denominator / s)) (right_told : r ≡ to_z w64 (of_z w64 y.numerator) *ℤ to_z w64 (x.denominator / s))
    (small_left : nat_abs l ≤ largest * largest) (small_right : nat_abs r ≤ largest * largest)
    (d e : ℕ) (d_is : d ≡ x.denominator / s) (e_is : e ≡ y.denominator) where
  abbrev number : ℤ
  number = to_z w128 (of_z w128 (to_z w128 (of_z w128 l) +ℤ to_z w128 (of_z w128 r)))

  number_is : number ≡ above x y
  number_is =
      sum_is l r small_left small_right
      ∙ ap₂ (λ m n. m +ℤ n) (left_told ∙ product_is x.numerator (y.denominator / s) f.small_numerator (quotient_small y.denominator s g.small_denominator) ∙ ap (λ k. x.numerator *ℤ pos (y.denominator / k)) shared_is)
      (right_told ∙ product_is y.numerator (x.denominator / s) g.small_numerator (quotient_small x.denominator s f.small_denominator) ∙ ap (λ k. y.numerator *ℤ pos (x.denominator / k)) shared_is)

  below_is : d * e ≡ x.denominator / gcd x.denominator y.denominator * y.denominator
  below_is = ap₂ (λ m n. m * n) (d_is ∙ ap (λ k. x.denominator / k) shared_is) e_is

  positive : 0 < d * e
  positive = rw below_is (mul-pos (left_pos x y f g) g.positive)

  divisor_is : (k m t : ℕ) → k ≡ gcd s (m % t) → m ≡ nat_abs number → t ≡ s → k ≡ gcd (nat_abs number) (d * e)
  divisor_is k m t told size same =
      told ∙ ap₂ (λ a b. gcd s (a % b)) size same ∙ sym (gcd-step (nat_abs number) s (rw shared_is (shared_pos x y f g)))
      ∙ ap₂ (λ a b. gcd (nat_abs a) b) number_is shared_is ∙ sym (shared_divisor x y f g) ∙ ap₂ (λ a b. gcd (nat_abs a) b) (sym number_is) (sym below_is)

  is_sum : limited (lowest number (d * e)) ≡ limited (sum x y)
  is_sum = ap₂ (λ a b. limited (lowest a b)) number_is below_is ∙ ap limited (least_sum x y f g)

pub nonzero_div-left : goal.nonzero_div-left
nonzero_div-left c = rw c.gcd_of_words-shared.ensures (gcd_pos _ _ c.other.invariant.positive)

pub nonzero_div-right : goal.nonzero_div-right
nonzero_div-right c = rw c.gcd_of_words-shared.ensures (gcd_pos _ _ c.other.invariant.positive)

pub nonzero_rem-rest : goal.nonzero_rem-rest
nonzero_rem-rest c = rw (c.from.ensures, c.gcd_of_words-shared.ensures) (gcd_pos _ _ c.other.invariant.positive)

pub overflow_cast-rest : goal.overflow_cast-rest
overflow_cast-rest c =
    let positive : 0 < c.from.result = rw (c.from.ensures, c.gcd_of_words-shared.ensures) (gcd_pos _ _ c.other.invariant.positive) in
    let below : c.unsigned_abs.result % c.from.result < c.from.result = mod-lt c.unsigned_abs.result positive in
    omega (arith, below, c.from.ensures, c.gcd_of_words-shared.type_inv)

pub divided-requires-clause-positive : goal.divided-requires-clause-positive
divided-requires-clause-positive c =
    positive _ _ c.self.invariant c.other.invariant _ c.gcd_of_words-shared.ensures _ _ c.cross.ensures.value c.cross-2.ensures.value c.cross.ensures.small c.cross-2.ensures.small
    _ _ c.from-2.ensures c.from-3.ensures

pub divided-requires-clause-divisor : goal.divided-requires-clause-divisor
divided-requires-clause-divisor c =
    c.from-4.ensures
    ∙ divisor_is _ _ c.self.invariant c.other.invariant _ c.gcd_of_words-shared.ensures _ _ c.cross.ensures.value c.cross-2.ensures.value c.cross.ensures.small c.cross-2.ensures.small
    _ _ c.from-2.ensures c.from-3.ensures _ _ _ c.gcd_of_words-divisor.ensures c.unsigned_abs.ensures.value c.from.ensures

pub returns : goal.returns
returns c =
    c.divided.ensures
    ∙ is_sum _ _ c.self.invariant c.other.invariant _ c.gcd_of_words-shared.ensures _ _ c.cross.ensures.value c.cross-2.ensures.value c.cross.ensures.small c.cross-2.ensures.small
    _ _ c.from-2.ensures c.from-3.ensures
    ∙ ap₂ (λ x y. limited (sum x y)) c.self.view_is c.other.view_is
