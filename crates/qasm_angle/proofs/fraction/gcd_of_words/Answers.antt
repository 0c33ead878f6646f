-- Two steps of Euclid's algorithm, then differences.
use Rattle.std.proofs.Common.{sym, ◌∙◌, ap, ap₂, arith}
use Rattle.qasm_angle.specs.Ratio.{gcd}
use Rattle.qasm_angle.proofs.GcdLemmas.{gcd-zero, gcd-step}
use Rattle.qasm_angle.proofs.BinaryLemmas.{gcd-two_steps}
use Rattle.qasm_angle.proofs.fraction.gcd_of_words.Goals as goal

pub returns-then-b-eq0 : goal.returns-then-b-eq0
returns-then-b-eq0 c = sym (gcd-zero c.args.a) ∙ ap (gcd c.args.a) (sym c.if-b-eq0.true)

pub returns-then-rest-eq0 : goal.returns-then-rest-eq0
returns-then-rest-eq0 c = sym (gcd-step c.args.a c.args.b (omega arith) ∙ ap (gcd c.args.b) c.if-rest-eq0.true ∙ gcd-zero c.args.b)

pub returns-then-last-eq0 : goal.returns-then-last-eq0
returns-then-last-eq0 c =
    sym (gcd-two_steps c.args.a c.args.b (omega arith) (omega arith) ∙ ap (gcd _) c.if-last-eq0.true ∙ gcd-zero _)

pub returns : goal.returns
returns c =
    c.gcd_of_halves.ensures ∙ ap₂ gcd c.halves_of.ensures.value c.halves_of-2.ensures.value
    ∙ sym (gcd-two_steps c.args.a c.args.b (omega arith) (omega arith))
