use Rattle.std.proofs.Common.{◌≡◌, take}
use Rattle.gflow_laws.specs.Flow.{order_of}
use Rattle.flow_find.proofs.along.table_of.Given as goal

abbrev pub invariant-loop-v : goal.invariant-loop-v
invariant-loop-v l = order_of l.table.table ≡ take l.v-index l.order
