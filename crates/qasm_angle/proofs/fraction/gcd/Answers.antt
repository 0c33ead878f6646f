use Rattle.std.proofs.Common.{sym, ◌∙◌, ap, arith}
use Rattle.qasm_angle.specs.Ratio.{gcd}
use Rattle.qasm_angle.proofs.GcdLemmas.{gcd-zero, gcd-step}
use Rattle.qasm_angle.proofs.fraction.gcd.Goals as goal

pub loop-smaller-preserved : goal.loop-smaller-preserved
loop-smaller-preserved c = sym (gcd-step _ _ (omega arith)) ∙ c.loop-smaller.invariant

pub returns-then-smaller-eq0 : goal.returns-then-smaller-eq0
returns-then-smaller-eq0 c =
    sym (gcd-zero c.loop-smaller.larger) ∙ ap (gcd c.loop-smaller.larger) (sym c.if-smaller-eq0.true) ∙ c.loop-smaller.invariant

pub returns : goal.returns
returns c = c.from.ensures ∙ c.gcd_of_words.ensures ∙ sym (gcd-step _ _ (omega arith)) ∙ c.loop-smaller.invariant
