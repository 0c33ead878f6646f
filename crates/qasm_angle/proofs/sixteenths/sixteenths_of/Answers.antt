use Rattle.std.proofs.Common.{sym, ◌∙◌}
use Rattle.qasm_angle.proofs.SixteenthLemmas.{multiple_some, multiple_none}
use Rattle.qasm_angle.proofs.sixteenths.sixteenths_of.Goals as goal

pub returns-then-is_zero-clause-some : goal.returns-then-is_zero-clause-some
returns-then-is_zero-clause-some c =
    multiple_some c.args.a.now (sym c.is_zero.ensures ∙ c.if-is_zero.true) c.sixteenths_of_multiple.ensures.lowest _ c.sixteenths_of_multiple.ensures.value

pub returns-then-is_zero-clause-none : goal.returns-then-is_zero-clause-none
returns-then-is_zero-clause-none c =
    multiple_none c.args.a.now (sym c.is_zero.ensures ∙ c.if-is_zero.true) c.sixteenths_of_multiple.ensures.lowest _ c.sixteenths_of_multiple.ensures.value
