-- A neighbour is a vertex.
use Rattle.zx_calculus.specs.Graph.{neighbours}
use Rattle.open_graph.proofs.Walks.{next_some, next_there}
use Rattle.zx_moves.proofs.SearchTests.{live_near}
use Rattle.zx_reduce.proofs.plan.partner_of.Goals as goal

pub level_beside-its-requires : goal.level_beside-its-requires
level_beside-its-requires c =
    live_near c.args.g.now.graph c.args.u c.in-Some.v
    (next_there c.loop-v.yielded c.loop-v.v-iterator c.next.new.self (neighbours c.args.g.now.graph c.args.u) c.in-Some.v c.loop-v.invariant.all
    (next_some c.next.result c.loop-v.v-iterator c.next.new.self c.in-Some.v c.next.ensures.steps c.in-Some.is))

pub pivot_cost-cost-requires-clause-v_live : goal.pivot_cost-cost-requires-clause-v_live
pivot_cost-cost-requires-clause-v_live c =
    live_near c.args.g.now.graph c.args.u c.in-Some.v
    (next_there c.loop-v.yielded c.loop-v.v-iterator c.next.new.self (neighbours c.args.g.now.graph c.args.u) c.in-Some.v c.loop-v.invariant.all
    (next_some c.next.result c.loop-v.v-iterator c.next.new.self c.in-Some.v c.next.ensures.steps c.in-Some.is))
