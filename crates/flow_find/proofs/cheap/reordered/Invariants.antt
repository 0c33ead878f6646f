use Rattle.std.proofs.Common.{◌≡◌, take}
use Rattle.gflow_laws.specs.Flow.{order_of}
use Rattle.flow_find.specs.Internal.Next.{HasSetsOf}
use Rattle.flow_find.proofs.cheap.reordered.Given as goal

abbrev pub invariant-loop-v : goal.invariant-loop-v
invariant-loop-v l = record {
  order : order_of l.new.table ≡ take l.v-index l.order;
  sets : HasSetsOf l.table.table (take l.v-index l.order) l.new.table;
}
