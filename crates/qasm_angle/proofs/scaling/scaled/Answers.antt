use Rattle.std.proofs.Common.{Some, ap, ◌∙◌, arith}
use Rattle.qasm_angle.proofs.DecimalLemmas.{zero-scaled, raised-scaled, lowered-scaled}
use Rattle.qasm_angle.proofs.scaling.scaled.Goals as goal

pub returns-then-leading-eq0 : goal.returns-then-leading-eq0
returns-then-leading-eq0 c = ap Some c.zero.ensures ∙ zero-scaled c.args.leading c.args.raised c.args.lowered c.if-leading-eq0.true

pub returns-then-lowered-raised : goal.returns-then-lowered-raised
returns-then-lowered-raised c = c.raised_by.ensures ∙ raised-scaled c.args.leading c.args.raised c.args.lowered (omega arith)

pub returns-else-lowered-raised : goal.returns-else-lowered-raised
returns-else-lowered-raised c = c.lowered_by.ensures ∙ lowered-scaled c.args.leading c.args.raised c.args.lowered (omega arith)
