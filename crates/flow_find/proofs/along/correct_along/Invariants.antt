use Rattle.std.proofs.Common.{◌≤◌, length}
use Rattle.gflow_laws.specs.Flow.{is_in}
use Rattle.flow_find.proofs.Orders.{IsSoFar}
use Rattle.flow_find.proofs.along.correct_along.Given as goal

abbrev pub invariant-loop-i : goal.invariant-loop-i
invariant-loop-i l = record {
  so_far : IsSoFar l.g.graph l.order l.i (is_in l.left.ids) l.rows.items l.table.table;
  few : length l.rows.items ≤ length l.g.graph.outputs;
}
