-- Numbers without a common divisor are in lowest terms.
use Rattle.std.proofs.Common.{Some, ◌≤◌, nat_abs, ◌∙◌, ap, sym, inl, inr, arith}
use Rattle.std.proofs.lemmas.Int.{to_z-of_z}
use mir.Val.{of_z, to_z}
use mir.Syntax.{w64, w128}
use Rattle.qasm_angle.specs.Ratio.{limited, largest}
use Rattle.qasm_angle.proofs.RatioLemmas.{limited-some, limited-none, SFits-small}
use Rattle.qasm_angle.proofs.ShortCuts.{lowest-apart}
use Rattle.qasm_angle.proofs.fraction.within.Goals as goal

pub returns-then-unsigned_abs-gt-LARGEST : goal.returns-then-unsigned_abs-gt-LARGEST
returns-then-unsigned_abs-gt-LARGEST c =
    let size = c.unsigned_abs.ensures.value ∙ ap nat_abs (to_z-of_z w128 c.args.numerator c.ranges.numerator) in
    sym (ap limited (lowest-apart (record { numerator = c.args.numerator; denominator = c.args.denominator }) c.requires.positive c.requires.lowest)
    ∙ limited-none _ (elim c.then-unsigned_abs-gt-LARGEST.either [ inl p ↦ inl (omega (arith, size, p)) | inr p ↦ inr p.1 ]))

pub returns : goal.returns
returns c =
    let longer = to_z-of_z w128 c.args.numerator c.ranges.numerator in
    let small : nat_abs c.args.numerator ≤ largest = omega (arith, c.unsigned_abs.ensures.value ∙ ap nat_abs longer, c.if-unsigned_abs-gt-LARGEST.false) in
    let same = ap (λ n. to_z w64 (of_z w64 n)) longer ∙ to_z-of_z w64 c.args.numerator (SFits-small _ small) in
    ap (λ n. Some (record { numerator = n; denominator = c.args.denominator })) same
    ∙ sym (ap limited (lowest-apart (record { numerator = c.args.numerator; denominator = c.args.denominator }) c.requires.positive c.requires.lowest)
    ∙ limited-some _ small c.if-denominator-gt-LARGEST.false)
