-- Each vertex that comes is one of the graph.
use Rattle.zx_calculus.specs.Graph.{ids}
use Rattle.open_graph.proofs.Walks.{next_some, next_there}
use Rattle.zx_text.proofs.graph_writer.push_edges.Goals as goal

pub neighbours-requires : goal.neighbours-requires
neighbours-requires c =
    next_there c.loop-v.yielded c.loop-v.v-iterator c.next.new.self (ids c.args.g.now.graph.vertices) c.in-Some.v
    c.loop-v.invariant.all
    (next_some c.next.result c.loop-v.v-iterator c.next.new.self c.in-Some.v c.next.ensures.steps c.in-Some.is)
