use Rattle.qasm_angle.proofs.LowestLemmas.{factor_cancels}
use Rattle.std.proofs.Common.{sym, ◌∙◌}
use Rattle.qasm_angle.proofs.laws.sixteenths_are_unique.Goals as goal

pub returns : goal.returns
returns c a m n p h k = factor_cancels m n a.multiple.denominator p (sym h.multiple ∙ k.multiple)
