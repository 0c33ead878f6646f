use Rattle.std.proofs.Common.{◌-◌, ◌∙◌, arith}
use Rattle.qasm_angle.proofs.DecimalLemmas.{ten_pow_mono, lowered_in_two, none-lowered}
use Rattle.qasm_angle.proofs.scaling.lowered_by.Goals as goal

pub lowered_twice-requires-clause-small_second : goal.lowered_twice-requires-clause-small_second
lowered_twice-requires-clause-small_second c = omega (arith, ten_pow_mono (c.args.tens - 38) 18 (omega arith), c.power_of_ten-then-tens-le18-2.ensures.value)

pub returns-then-tens-le18 : goal.returns-then-tens-le18
returns-then-tens-le18 c = c.lowered_twice.ensures ∙ lowered_in_two c.args.leading c.args.tens _ _ (omega arith) c.power_of_ten-then-tens-le18.ensures.value c.power_of_ten-then-tens-le18-2.ensures.value

pub returns-else-tens-le18 : goal.returns-else-tens-le18
returns-else-tens-le18 c = none-lowered c.args.leading c.args.tens c.requires.some c.requires.few_digits (omega arith)
