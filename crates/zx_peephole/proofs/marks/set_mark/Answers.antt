-- The row of the qubit gets the bit.
use Rattle.std.proofs.Common.{arith}
use Rattle.zx_peephole.proofs.MarkLemmas.{mark_here, mark_stays}
use Rattle.zx_peephole.proofs.marks.set_mark.Goals as goal

pub returns-clause-here : goal.returns-clause-here
returns-clause-here c =
    mark_here c.args.marks.now c.from.result c.from-other.result (omega arith) (omega arith)
    c.args.q c.args.r c.from.ensures c.from-other.ensures

pub returns-clause-stays : goal.returns-clause-stays
returns-clause-stays c = mark_stays c.args.marks.now c.from.result c.from-other.result (omega arith) (omega arith)
