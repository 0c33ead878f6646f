-- Both numbers are divided by what divides both.
use Rattle.std.proofs.Common.{pos, nat_abs, sym, ◌∙◌, ap, subst, ◌≤◌}
use Rattle.std.specs.Prelude.{int_lt}
use Rattle.std.proofs.lemmas.Int.{to_z-of_z}
use mir.Val.{of_z, to_z}
use mir.Syntax.{w64}
use Rattle.qasm_angle.specs.Ratio.{largest}
use Rattle.qasm_angle.specs.Internal.Signs.{signed}
use Rattle.qasm_angle.proofs.GcdLemmas.{gcd_pos}
use Rattle.qasm_angle.proofs.RatioLemmas.{are_terms, IsFraction-terms, signed_same, quotient_small}
use Rattle.qasm_angle.proofs.fraction.lowest_words.Goals as goal

pub nonzero_div-above : goal.nonzero_div-above
nonzero_div-above c = rw c.gcd_of_words-divisor.ensures (gcd_pos _ _ c.requires.positive)

pub nonzero_div-result : goal.nonzero_div-result
nonzero_div-result c = rw c.gcd_of_words-divisor.ensures (gcd_pos _ _ c.requires.positive)

pub invariant_of-result : goal.invariant_of-result
invariant_of-result c =
    let same = to_z-of_z w64 c.args.numerator c.ranges.numerator in
    let size = c.unsigned_abs-size.ensures.value ∙ ap nat_abs same in
    let small = quotient_small _ c.gcd_of_words-divisor.result (subst (λ n. n ≤ largest) (sym size) c.requires.numerator) in
    IsFraction-terms c.args.numerator _ _ _ _ size c.gcd_of_words-divisor.ensures (ap (λ x. int_lt x (pos 0)) same) _
    (ap (λ x. to_z w64 (of_z w64 x)) (c.signed.ensures ∙ ap (signed _) c.from.ensures) ∙ signed_same _ _ small) c.requires.positive small (quotient_small _ _ c.requires.denominator)

pub returns : goal.returns
returns c =
    let same = to_z-of_z w64 c.args.numerator c.ranges.numerator in
    let size = c.unsigned_abs-size.ensures.value ∙ ap nat_abs same in
    let small = quotient_small _ c.gcd_of_words-divisor.result (subst (λ n. n ≤ largest) (sym size) c.requires.numerator) in
    are_terms c.args.numerator _ _ _ _ size c.gcd_of_words-divisor.ensures (ap (λ x. int_lt x (pos 0)) same) _
    (ap (λ x. to_z w64 (of_z w64 x)) (c.signed.ensures ∙ ap (signed _) c.from.ensures) ∙ signed_same _ _ small)
