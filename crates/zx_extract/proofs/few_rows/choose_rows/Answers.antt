use Rattle.std.proofs.Common.{subst}
use Rattle.zx_bits.specs.Solving.{IsSolved}
use Rattle.zx_extract.proofs.ChosenRows.{never_none, solves_whole, no_more}
use Rattle.zx_extract.proofs.few_rows.choose_rows.Goals as goal

pub unreachable-requires : goal.unreachable-requires
unreachable-requires c =
    never_none c.args.m.now c.in_ok-only.only c.args.kept.now.bits c.requires.rows c.in_ok-only.ensures c.args.target.now.bits c.in-None.field-0.bits c.requires.sum
    (subst (IsSolved c.in_ok-only.only c.args.target.now.bits) c.in-None.is c.in_ok-set-2.ensures)

pub returns-clause-minimal : goal.returns-clause-minimal
returns-clause-minimal c =
    solves_whole c.args.m.now c.in_ok-only.only c.args.kept.now.bits c.requires.rows c.in_ok-only.ensures c.args.target.now.bits c.in-Rows-2.set.bits
    (subst (IsSolved c.in_ok-only.only c.args.target.now.bits) c.in-Rows-2.is c.in_ok-set-2.ensures)

pub returns-clause-sum : goal.returns-clause-sum
returns-clause-sum c = (returns-clause-minimal c).sum

pub returns-clause-few : goal.returns-clause-few
returns-clause-few c =
    no_more c.args.m.now c.in_ok-only.only c.args.kept.now.bits c.requires.rows c.in_ok-only.ensures c.args.target.now.bits c.in-Rows-2.set.bits
    (subst (IsSolved c.in_ok-only.only c.args.target.now.bits) c.in-Rows-2.is c.in_ok-set-2.ensures)
