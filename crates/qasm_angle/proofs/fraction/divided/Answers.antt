use Rattle.std.proofs.Common.{pos, nat_abs, refl, sym, ◌∙◌, ap, inl, inr}
use Rattle.std.specs.Prelude.{int_lt}
use Rattle.std.proofs.lemmas.Int.{to_z-of_z}
use mir.Val.{of_z, to_z}
use mir.Syntax.{w64, w128}
use Rattle.qasm_angle.specs.Ratio.{gcd}
use Rattle.qasm_angle.proofs.GcdLemmas.{gcd_pos}
use Rattle.qasm_angle.proofs.RatioLemmas.{limited_terms, none_limited, IsFraction-terms, signed_same}
use Rattle.qasm_angle.proofs.fraction.divided.Goals as goal

pub nonzero_div-above : goal.nonzero_div-above
nonzero_div-above c = rw c.requires.divisor (gcd_pos _ _ c.requires.positive)

pub nonzero_div-below : goal.nonzero_div-below
nonzero_div-below c = rw c.requires.divisor (gcd_pos _ _ c.requires.positive)

pub returns-then-above-gt-LARGEST : goal.returns-then-above-gt-LARGEST
returns-then-above-gt-LARGEST c =
    let same = to_z-of_z w128 c.args.numerator c.ranges.numerator in
    none_limited _ _ _ _ (int_lt c.args.numerator (pos 0)) (c.unsigned_abs.ensures.value ∙ ap nat_abs same) (c.requires.divisor ∙ ap (λ n. gcd n c.args.denominator) (sym (c.unsigned_abs.ensures.value ∙ ap nat_abs same))) refl
    (elim c.then-above-gt-LARGEST.either [ inl p ↦ inl p | inr p ↦ inr p.1 ])

pub invariant_of-result : goal.invariant_of-result
invariant_of-result c =
    let same = to_z-of_z w128 c.args.numerator c.ranges.numerator in
    let small = c.if-above-gt-LARGEST.false in
    IsFraction-terms c.args.numerator _ _ _ _ (c.unsigned_abs.ensures.value ∙ ap nat_abs same) (c.requires.divisor ∙ ap (λ n. gcd n c.args.denominator) (sym (c.unsigned_abs.ensures.value ∙ ap nat_abs same))) (ap (λ x. int_lt x (pos 0)) same) _
    (ap (λ x. to_z w64 (of_z w64 x)) c.signed.ensures ∙ signed_same _ _ small) c.requires.positive small c.if-below-gt-LARGEST.false

pub returns : goal.returns
returns c =
    let same = to_z-of_z w128 c.args.numerator c.ranges.numerator in
    let small = c.if-above-gt-LARGEST.false in
    limited_terms c.args.numerator _ _ _ _ (c.unsigned_abs.ensures.value ∙ ap nat_abs same) (c.requires.divisor ∙ ap (λ n. gcd n c.args.denominator) (sym (c.unsigned_abs.ensures.value ∙ ap nat_abs same))) (ap (λ x. int_lt x (pos 0)) same) _
    (ap (λ x. to_z w64 (of_z w64 x)) c.signed.ensures ∙ signed_same _ _ small) small c.if-below-gt-LARGEST.false
