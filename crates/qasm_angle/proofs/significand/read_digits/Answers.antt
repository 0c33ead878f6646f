use Rattle.std.proofs.Common.{◌+◌, drop, zero-le, arith}
use Rattle.qasm_angle.proofs.DecimalLemmas.{ten_pow_mono}
use Rattle.qasm_angle.proofs.SignificandLemmas.{IsSignificand-start, DecidesAlike-start, DecidesAlike-next}
use Rattle.qasm_angle.proofs.significand.read_digits.Goals as goal

pub loop-b-init : goal.loop-b-init
loop-b-init c = record { valid = IsSignificand-start; keeps = DecidesAlike-start _; zeros = zero-le }

pub loop-b-preserved : goal.loop-b-preserved
loop-b-preserved c =
    let next = DecidesAlike-next c.loop-b.significand c.args.mantissa.now _ c.loop-b.b-index c.loop-b-test.true c.loop-b.invariant.keeps in
    record {
      valid = c.in_ok-significand.ensures.valid;
      keeps = c.in_ok-significand.ensures.some (drop (c.loop-b.b-index + 1) c.args.mantissa.now) _ next;
      zeros = omega (arith, c.in_ok-significand.ensures.zeros);
    }

pub returns-clause-small : goal.returns-clause-small
returns-clause-small c = omega (arith, ten_pow_mono c.loop-b.significand.count 38 c.loop-b.invariant.valid.few, c.loop-b.invariant.valid.small)
