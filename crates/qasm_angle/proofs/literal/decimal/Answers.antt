use Rattle.std.proofs.Common.{◌∙◌}
use Rattle.qasm_angle.specs.Literals.{digits_of}
use Rattle.qasm_angle.proofs.LiteralLemmas.{decimal-from}
use Rattle.qasm_angle.proofs.literal.decimal.Goals as goal

pub returns : goal.returns
returns c = c.scaled.ensures ∙ decimal-from (digits_of c.args.mantissa.now) c.in_ok-digits.digits.leading c.in_ok-digits.digits.zeros c.args.raised c.args.lowered c.in_ok-digits.ensures.some c.in_ok-digits.ensures.number
