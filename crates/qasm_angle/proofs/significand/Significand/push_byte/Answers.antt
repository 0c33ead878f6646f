use Rattle.std.proofs.Common.{sym, ◌∙◌}
use Rattle.qasm_angle.proofs.SignificandLemmas.{DecidesAlike-digit}
use Rattle.qasm_angle.proofs.significand.Significand.push_byte.Goals as goal

pub returns-then-is_ascii_digit-clause-some : goal.returns-then-is_ascii_digit-clause-some
returns-then-is_ascii_digit-clause-some c =
    DecidesAlike-digit c.args.self c.args.byte c.push.result (sym c.is_ascii_digit.ensures.value ∙ c.if-is_ascii_digit.true) c.push.ensures.some
