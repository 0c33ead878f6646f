-- The fractions with exchanged denominators have no common divisors left.
use Rattle.std.proofs.Common.{◌≡◌, ℕ, ◌*◌, ◌≤◌, ℤ, pos, ◌*ℤ◌, nat_abs, Some, inl, inr, ap, ap₂, ◌∙◌, arith}
use Rattle.std.proofs.lemmas.Int.{to_z-of_z, fits_signed_from_abs}
use mir.Val.{of_z, to_z}
use mir.Syntax.{w64, w128}
use Rattle.qasm_angle.specs.Ratio.{Ratio, gcd, lowest, largest, limited, product, whole, IsFraction}
use Rattle.qasm_angle.proofs.RatioLemmas.{SFits-small}
use Rattle.qasm_angle.proofs.ShortCuts.{both, of_nothing, product-nothing}
use Rattle.qasm_angle.proofs.CrossLemmas.{product-apart, product-crossed}
use Rattle.qasm_angle.proofs.fraction.Fraction.checked_mul.Goals as goal

same : (n : ℤ) → nat_abs n ≤ largest → to_z w64 (of_z w64 n) ≡ n
same n small = to_z-of_z w64 n (SFits-small n small)

-- what is told of the fractions with exchanged denominators, and of the product of their numerators
module _ (x y l r : Ratio) (f : IsFraction x) (g : IsFraction y) (h : IsFraction l) (i : IsFraction r)
    (left_told : l ≡ lowest (to_z w64 (of_z w64 x.numerator)) y.denominator) (right_told : r ≡ lowest (to_z w64 (of_z w64 y.numerator)) x.denominator)
    (n : ℤ) (told : n ≡ to_z w64 (of_z w64 l.numerator) *ℤ to_z w64 (of_z w64 r.numerator)) (small : nat_abs n ≤ largest * largest)
    (d e : ℕ) (d_is : d ≡ l.denominator) (e_is : e ≡ r.denominator) where
  left_is : l ≡ lowest x.numerator y.denominator
  left_is = left_told ∙ ap (λ m. lowest m y.denominator) (same x.numerator f.small_numerator)

  right_is : r ≡ lowest y.numerator x.denominator
  right_is = right_told ∙ ap (λ m. lowest m x.denominator) (same y.numerator g.small_numerator)

  number : to_z w128 (of_z w128 n) ≡ l.numerator *ℤ r.numerator
  number =
      to_z-of_z w128 n (fits_signed_from_abs w128 n (omega arith))
      ∙ told ∙ ap₂ (λ a b. a *ℤ b) (same l.numerator h.small_numerator) (same r.numerator i.small_numerator)

  apart : gcd (nat_abs (to_z w128 (of_z w128 n))) (d * e) ≡ 1
  apart = rw (number, d_is, e_is) (product-apart x y f g l r left_is right_is)

  is_product : limited (lowest (to_z w128 (of_z w128 n)) (d * e)) ≡ limited (product x y)
  is_product = rw (number, d_is, e_is) (product-crossed x y f g l r left_is right_is)

pub within-requires-clause-lowest : goal.within-requires-clause-lowest
within-requires-clause-lowest c =
    apart _ _ _ _ c.self.invariant c.other.invariant c.left.invariant c.right.invariant
    (c.left.view_is ∙ c.lowest_words-left.ensures) (c.right.view_is ∙ c.lowest_words-right.ensures)
    c.cross.result c.cross.ensures.value c.cross.ensures.small _ _ c.from.ensures c.from-2.ensures

pub returns : goal.returns
returns c =
    c.within.ensures
    ∙ is_product _ _ _ _ c.self.invariant c.other.invariant c.left.invariant c.right.invariant
    (c.left.view_is ∙ c.lowest_words-left.ensures) (c.right.view_is ∙ c.lowest_words-right.ensures)
    c.cross.result c.cross.ensures.value c.cross.ensures.small _ _ c.from.ensures c.from-2.ensures
    ∙ ap₂ (λ x y. limited (product x y)) c.self.view_is c.other.view_is

pub returns-then-self-eq0 : goal.returns-then-self-eq0
returns-then-self-eq0 c =
    ap Some c.zero.ensures
    ∙ both c.self.view_is c.other.view_is (λ x y. Some (whole (pos 0)) ≡ limited (product x y))
    (product-nothing (record { numerator = c.self.inside.numerator; denominator = c.self.inside.denominator }) (record { numerator = c.other.inside.numerator; denominator = c.other.inside.denominator }) c.self.invariant.positive c.other.invariant.positive (elim c.then-self-eq0.either [
      | inl e ↦ inl (of_nothing _ c.self.invariant.small_numerator e)
      | inr p ↦ inr (of_nothing _ c.other.invariant.small_numerator p.1)
    ]))
