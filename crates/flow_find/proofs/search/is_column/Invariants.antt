use Rattle.std.proofs.Common.{take}
use Rattle.flow_find.specs.Frontiers.{AreAll}
use Rattle.flow_find.proofs.Changing.{IsWithout}
use Rattle.flow_find.proofs.search.is_column.Given as goal

abbrev pub invariant-loop-row : goal.invariant-loop-row
invariant-loop-row l = AreAll (IsWithout l.w) (take l.row-index l.rows)
