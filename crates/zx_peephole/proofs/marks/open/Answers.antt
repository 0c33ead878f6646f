-- A gate that isn't diagonal bars its second qubit, all marks of which are set.
use Rattle.std.proofs.Common.{sym, ◌∙◌, arith}
use Rattle.zx_peephole.proofs.MarkLemmas.{marks_opened, marks_stay}
use Rattle.zx_peephole.proofs.marks.open.Goals as goal

pub returns-then-not-is_diagonal-clause-marked : goal.returns-then-not-is_diagonal-clause-marked
returns-then-not-is_diagonal-clause-marked c =
    marks_opened c.args.marks.now c.from.result c.args.gate.now
    (omega (arith, c.from.ensures, c.second_qubit.ensures, c.requires.rows.second)) (c.from.ensures ∙ c.second_qubit.ensures)

pub returns-else-not-is_diagonal-clause-marked : goal.returns-else-not-is_diagonal-clause-marked
returns-else-not-is_diagonal-clause-marked c =
    marks_stay c.args.marks.now c.args.gate.now (sym c.is_diagonal.ensures ∙ c.if-not-is_diagonal.false)
