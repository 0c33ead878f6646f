use Rattle.std.proofs.Common.{◌-◌, ◌^◌, ◌∙◌}
use Rattle.qasm_names.proofs.NumeralLemmas.{one_digit}
use Rattle.qasm_names.proofs.numerals.with_digit.Goals as goal

pub returns : goal.returns
returns c =
    one_digit c.args.number (2 ^ 64 - 1) c.args.digit _ _ _ c.saturating_mul.ensures (c.from.ensures ∙ c.saturating_sub.ensures) c.saturating_add.ensures
