use Rattle.open_graph.proofs.RowLemmas.{in_order-rising}
use Rattle.open_graph.proofs.vertex_set.VertexSet.keep.Goals as goal

pub invariant_of-self : goal.invariant_of-self
invariant_of-self c = in_order-rising c.keep.new.self.numbers c.keep.ensures.rising
