-- What stands in the order is a member of it.
use Rattle.std.proofs.Common.{ap, length, arith}
use Rattle.gflow_laws.specs.Flow.{order_of}
use Rattle.zx_calculus.proofs.Positions.{at_place, member-at_place}
use Rattle.zx_flow.proofs.flow.Flow.vertex_at.Goals as goal

pub bounds-order-i : goal.bounds-order-i
bounds-order-i c = omega (arith, c.requires, ap length c.order.ensures.value)

pub returns-clause-value : goal.returns-clause-value
returns-clause-value c =
    at_place (order_of c.args.self.now.flow) c.order.result.now c.args.i c.index-order-i.result c.order.ensures.value
    c.requires c.index-order-i.is

pub returns-clause-there : goal.returns-clause-there
returns-clause-there c = member-at_place (order_of c.args.self.now.flow) c.args.i c.index-order-i.result c.requires
    (returns-clause-value c)
