use Rattle.qasm_unroll.proofs.unroll.Unrolled.copy.Goals as goal

pub returns-in-Cx-clause-copied : goal.returns-in-Cx-clause-copied
returns-in-Cx-clause-copied c = rw c.in-Cx.is c.copy_cx.ensures.copied
