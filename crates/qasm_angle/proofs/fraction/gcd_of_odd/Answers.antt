-- The smaller number and half of the difference, again and again, have the same divisors.
use Rattle.std.proofs.Common.{◌%◌, sym, ◌∙◌, ap}
use Rattle.qasm_angle.specs.Ratio.{gcd}
use Rattle.qasm_angle.proofs.BinaryLemmas.{gcd-same, gcd-smaller, odd_min}
use Rattle.qasm_angle.proofs.fraction.gcd_of_odd.Goals as goal

pub loop-left-preserved : goal.loop-left-preserved
loop-left-preserved c =
    let l = c.loop-left.left in
    let r = c.loop-left.right in
    let kept = c.loop-left.invariant in
    let half = c.halves_of-apart.result in (
      ap (λ n. gcd n half.odd) c.min-left.ensures ∙ gcd-smaller l r half.twos half.odd kept.1 kept.2 (c.halves_of-apart.ensures.value ∙ c.abs_diff.ensures) ∙ kept.0,
      ap (λ n. n % 2) c.min-left.ensures ∙ odd_min l r kept.1 kept.2,
      c.halves_of-apart.ensures.odd,
    )

pub returns : goal.returns
returns c = sym (gcd-same c.loop-left.left) ∙ ap (gcd c.loop-left.left) c.loop-left-test.false ∙ c.loop-left.invariant.0
