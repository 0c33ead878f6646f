use Rattle.flow_find.specs.Internal.Rows.{IsCleared}
use Rattle.flow_find.proofs.Steps.{AreChanged}
use Rattle.flow_find.proofs.rows.clear_column.Given as goal

abbrev pub invariant-loop-other : goal.invariant-loop-other
invariant-loop-other l = AreChanged (IsCleared l.column l.row) l.other-index l.fn.rows l.rows
