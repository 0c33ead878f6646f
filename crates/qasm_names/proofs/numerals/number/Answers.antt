use Rattle.std.proofs.Common.{◌-◌, ◌^◌}
use Rattle.qasm_names.proofs.NumeralLemmas.{numeral-done}
use Rattle.qasm_names.proofs.numerals.number.Goals as goal

pub returns : goal.returns
returns c =
    numeral-done c.loop-digit.number (2 ^ 64 - 1) c.args.text.now c.args.text.now c.loop-digit.digit-index c.loop-digit.invariant.small c.loop-digit-test.false c.loop-digit.invariant.decides
