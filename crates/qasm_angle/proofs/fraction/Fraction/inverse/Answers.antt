-- The terms change places, and have no more in common than before.
use Rattle.std.proofs.Common.{◌≡◌, ◌≤◌, ℕ, ℤ, pos, false, nat_abs, ◌∙◌, ap, ap₂, subst, sym}
use Rattle.std.specs.Prelude.{int_lt}
use Rattle.std.proofs.lemmas.Int.{to_z-of_z}
use mir.Val.{of_z, to_z}
use mir.Syntax.{w64}
use Rattle.qasm_angle.specs.Ratio.{Ratio, is_zero, largest, product, quotient}
use Rattle.qasm_angle.specs.Internal.Signs.{signed}
use Rattle.qasm_angle.proofs.CrossLemmas.{IsFraction-inverse, product-inverse}
use Rattle.qasm_angle.proofs.RatioLemmas.{nonzero_numerator, signed_same, SFits-small}
use Rattle.qasm_angle.proofs.fraction.Fraction.inverse.Goals as goal

same : (n : ℤ) → nat_abs n ≤ largest → to_z w64 (of_z w64 n) ≡ n
same n small = to_z-of_z w64 n (SFits-small n small)

above : (n r : ℤ) (d e : ℕ) → nat_abs n ≤ largest → d ≤ largest → e ≡ d → r ≡ signed (int_lt (to_z w64 (of_z w64 n)) (pos 0)) e
    → to_z w64 (of_z w64 r) ≡ signed (int_lt n (pos 0)) d
above n r d e p q is told =
    ap (λ m. to_z w64 (of_z w64 m)) (told ∙ ap₂ (λ m k. signed (int_lt m (pos 0)) k) (same n p) is) ∙ signed_same _ _ q

pub invariant_of-result : goal.invariant_of-result
invariant_of-result c =
    let nonzero = nonzero_numerator (record { numerator = c.self.inside.numerator; denominator = c.self.inside.denominator }) (subst (λ (r : Ratio). is_zero r ≡ false) (sym c.self.view_is) c.requires) in
    rw (
      above c.self.inside.numerator _ c.self.inside.denominator _ c.self.invariant.small_numerator c.self.invariant.small_denominator c.from.ensures c.signed.ensures,
      c.unsigned_abs.ensures.value ∙ ap nat_abs (same c.self.inside.numerator c.self.invariant.small_numerator),
    ) (IsFraction-inverse c.self.inside.numerator c.self.inside.denominator nonzero c.self.invariant)

pub returns : goal.returns
returns c = λ x p.
    let nonzero = nonzero_numerator (record { numerator = c.self.inside.numerator; denominator = c.self.inside.denominator }) (subst (λ (r : Ratio). is_zero r ≡ false) (sym c.self.view_is) c.requires) in
    ap₂ (λ n d. product x (record { numerator = n; denominator = d })) (above c.self.inside.numerator _ c.self.inside.denominator _ c.self.invariant.small_numerator c.self.invariant.small_denominator c.from.ensures c.signed.ensures)
    (c.unsigned_abs.ensures.value ∙ ap nat_abs (same c.self.inside.numerator c.self.invariant.small_numerator))
    ∙ product-inverse x c.self.inside.numerator c.self.inside.denominator p nonzero ∙ ap (quotient x) c.self.view_is
