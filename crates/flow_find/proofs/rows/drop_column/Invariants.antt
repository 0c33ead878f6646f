use Rattle.flow_find.specs.Internal.Rows.{IsDropped}
use Rattle.flow_find.proofs.Steps.{AreChanged}
use Rattle.flow_find.proofs.rows.drop_column.Given as goal

abbrev pub invariant-loop-row : goal.invariant-loop-row
invariant-loop-row l = AreChanged (IsDropped l.v) l.row-index l.fn.rows l.rows
