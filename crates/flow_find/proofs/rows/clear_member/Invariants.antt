use Rattle.flow_find.specs.Internal.Rows.{IsRelieved}
use Rattle.flow_find.proofs.Steps.{AreChanged}
use Rattle.flow_find.proofs.rows.clear_member.Given as goal

abbrev pub invariant-loop-other : goal.invariant-loop-other
invariant-loop-other l = AreChanged (IsRelieved l.member l.row) l.other-index l.fn.rows l.rows
