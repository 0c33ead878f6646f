use Rattle.std.proofs.Common.{arith}
use Rattle.qasm_angle.proofs.SignificandLemmas.{DecidesAlike-zero, more_digits}
use Rattle.qasm_angle.proofs.significand.Significand.push.Goals as goal

pub overflow_mul-leading : goal.overflow_mul-leading
overflow_mul-leading c =
    let s = c.args.self in
    omega (arith, more_digits s.leading s.count c.args.digit c.requires.valid.small c.if-self-lt-MOST_SIGNIFICANT.true c.requires.digit)

pub overflow_add-leading : goal.overflow_add-leading
overflow_add-leading c =
    let s = c.args.self in
    omega (arith, more_digits s.leading s.count c.args.digit c.requires.valid.small c.if-self-lt-MOST_SIGNIFICANT.true c.requires.digit)

pub returns-then-digit-eq0-clause-some : goal.returns-then-digit-eq0-clause-some
returns-then-digit-eq0-clause-some c rest digits h = DecidesAlike-zero c.args.self c.args.digit rest digits c.if-self-lt-MOST_SIGNIFICANT.false c.if-digit-eq0.true h
