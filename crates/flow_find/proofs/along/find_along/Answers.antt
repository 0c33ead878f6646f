-- The vertices stand once in the order.
use Rattle.flow_find.proofs.Orders.{is_order}
use Rattle.flow_find.proofs.along.find_along.Goals as goal

pub table_of-requires : goal.table_of-requires
table_of-requires c = (is_order c.args.g.now.graph c.args.order.now c.requires).each_once
