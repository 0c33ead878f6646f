use Rattle.std.proofs.Common.{◌≡◌, length}
use Rattle.gflow_laws.specs.Flow.{is_in}
use Rattle.flow_find.proofs.Choosing.{IsLeftAlong, IsFoundAlong}
use Rattle.flow_find.proofs.cheap.correct_all.Given as goal

abbrev pub invariant-loop-i : goal.invariant-loop-i
invariant-loop-i l = record {
  so_far : IsLeftAlong l.g.graph l.order.items l.i (is_in l.left.ids) l.rows.items;
  found : IsFoundAlong l.g.graph l.order.items l.i l.table.table;
  size : length l.order.items ≡ length l.fn.order.items;
}
