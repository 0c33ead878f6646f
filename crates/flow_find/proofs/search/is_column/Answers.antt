-- One row more is without the column.
use Rattle.std.proofs.Common.{◌∙◌, sym, subst, add-one, take_all, arith, true≢false}
use Rattle.flow_find.specs.Frontiers.{AreAll}
use Rattle.flow_find.proofs.Changing.{IsWithout}
use Rattle.flow_find.proofs.Solving.{without_more}
use Rattle.flow_find.proofs.search.is_column.Goals as goal

pub returns-then-contains : goal.returns-then-contains
returns-then-contains c = λ e. absurd (true≢false e)

pub loop-row-preserved : goal.loop-row-preserved
loop-row-preserved c =
    rw add-one (without_more c.args.w c.args.rows.now c.loop-row.row-index c.row-item.result c.loop-row-test.true c.row-item.is
    (sym c.contains.ensures ∙ c.if-contains.false) c.loop-row.invariant)

pub returns : goal.returns
returns c = λ e. subst (AreAll (IsWithout c.args.w)) (take_all c.loop-row.row-index c.args.rows.now (omega arith)) c.loop-row.invariant
