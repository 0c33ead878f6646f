use Rattle.std.proofs.Common.{◌∙◌}
use Rattle.qasm_unroll.proofs.MeasuringLemmas.{holds-members}
use Rattle.qasm_unroll.proofs.measured.Measured.has_bit.Goals as goal

pub returns : goal.returns
returns c = λ remembers. c.holds_any.ensures ∙ holds-members _ _ _ remembers.bits
