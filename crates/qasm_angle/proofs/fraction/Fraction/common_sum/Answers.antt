use Rattle.std.proofs.Common.{◌≡◌, sym, ◌≤◌, ℤ, ◌+ℤ◌, nat_abs, ◌∙◌, ap, ap₂, rules, arith}
use Rattle.std.proofs.lemmas.Int.{to_z-of_z, fits_signed_from_abs, ints}
use mir.Val.{SFits, of_z, to_z}
use mir.Syntax.{w64, w128}
use Rattle.qasm_angle.specs.Ratio.{Ratio, limited, lowest, largest, sum}
use Rattle.qasm_angle.proofs.RatioLemmas.{SFits-small}
use Rattle.qasm_angle.proofs.ShortCuts.{both, sum-common}
use Rattle.qasm_angle.proofs.fraction.Fraction.common_sum.Goals as goal

small_sum : (a b : ℤ) → nat_abs a ≤ largest → nat_abs b ≤ largest → SFits w128 (a +ℤ b)
small_sum a b p q = fits_signed_from_abs w128 (a +ℤ b) (omega (arith, ints))

pub returns : goal.returns
returns c =
    let left = c.from.ensures ∙ to_z-of_z w64 c.self.inside.numerator (SFits-small _ c.self.invariant.small_numerator) in
    let right = c.from-2.ensures ∙ to_z-of_z w64 c.other.inside.numerator (SFits-small _ c.other.invariant.small_numerator) in
    let fits_left : SFits w128 c.from.result = search rules in
    let fits_right : SFits w128 c.from-2.result = search rules in
    let fits : SFits w128 (c.from.result +ℤ c.from-2.result) = small_sum c.from.result c.from-2.result (rw left c.self.invariant.small_numerator) (rw right c.other.invariant.small_numerator) in
    let inner = ap₂ (λ m n. m +ℤ n) (to_z-of_z w128 c.from.result fits_left) (to_z-of_z w128 c.from-2.result fits_right) in
    both c.self.view_is c.other.view_is (λ x y. c.reduced.result ≡ limited (sum x y))
    (c.reduced.ensures
    ∙ ap₂ (λ n d. limited (lowest n d)) (ap (λ n. to_z w128 (of_z w128 n)) inner ∙ to_z-of_z w128 _ fits ∙ ap₂ (λ m n. m +ℤ n) left right) c.from-3.ensures
    ∙ sum-common (record { numerator = c.self.inside.numerator; denominator = c.self.inside.denominator }) (record { numerator = c.other.inside.numerator; denominator = c.other.inside.denominator }) c.self.invariant.positive
    (ap (λ (r : Ratio). r.denominator) c.self.view_is ∙ c.requires ∙ sym (ap (λ (r : Ratio). r.denominator) c.other.view_is)))
