use Rattle.std.proofs.Common.{◌∙◌}
use Rattle.qasm_angle.specs.Literals.{is_exponent_mark}
use Rattle.qasm_angle.proofs.LiteralLemmas.{place-or-end}
use Rattle.qasm_angle.proofs.literal.exponent_mark.Goals as goal

pub returns-clause-place : goal.returns-clause-place
returns-clause-place c = c.unwrap_or.ensures ∙ place-or-end is_exponent_mark c.args.text.now c.first_exponent_mark.result c.first_exponent_mark.ensures
