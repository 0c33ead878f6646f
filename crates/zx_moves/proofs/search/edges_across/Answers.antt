-- A neighbour is a vertex.
use Rattle.zx_calculus.specs.Graph.{neighbours}
use Rattle.open_graph.proofs.Walks.{next_some, next_there}
use Rattle.zx_moves.proofs.SearchTests.{live_near}
use Rattle.zx_moves.proofs.search.edges_across.Goals as goal

pub common_neighbours-requires-clause-p_live : goal.common_neighbours-requires-clause-p_live
common_neighbours-requires-clause-p_live c =
    live_near c.args.g.now.graph c.args.u c.in-Some.p
    (next_there c.loop-p.yielded c.loop-p.p-iterator c.next.new.self (neighbours c.args.g.now.graph c.args.u) c.in-Some.p c.loop-p.invariant.all
    (next_some c.next.result c.loop-p.p-iterator c.next.new.self c.in-Some.p c.next.ensures.steps c.in-Some.is))
