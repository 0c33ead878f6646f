-- One row more is changed.
use Rattle.std.proofs.Common.{add-one, arith}
use Rattle.flow_find.specs.Internal.Rows.{IsDropped}
use Rattle.flow_find.proofs.Steps.{changed_more, changed_all}
use Rattle.flow_find.proofs.rows.drop_column.Goals as goal

pub loop-row-preserved : goal.loop-row-preserved
loop-row-preserved c =
    rw add-one (changed_more (IsDropped c.args.v) c.loop-row.row-index c.args.rows.now c.loop-row.rows c.drop_column.new.self c.row-item.result
    (omega arith) c.loop-row.invariant c.in_ok-drop_column.ensures)

pub returns : goal.returns
returns c = changed_all (IsDropped c.args.v) c.loop-row.row-index c.args.rows.now c.loop-row.rows (omega arith) c.loop-row.invariant
