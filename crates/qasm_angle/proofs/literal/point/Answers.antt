use Rattle.std.proofs.Common.{◌∙◌}
use Rattle.qasm_angle.specs.Literals.{is_point}
use Rattle.qasm_angle.proofs.LiteralLemmas.{place-or-end}
use Rattle.qasm_angle.proofs.literal.point.Goals as goal

pub returns-clause-place : goal.returns-clause-place
returns-clause-place c = c.unwrap_or.ensures ∙ place-or-end is_point c.args.text.now c.first_point.result c.first_point.ensures
