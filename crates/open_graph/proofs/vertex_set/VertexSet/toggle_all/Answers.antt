use Rattle.std.proofs.Common.{ap, arith}
use Rattle.open_graph.proofs.RowLemmas.{in_order-rising, below_too}
use Rattle.open_graph.proofs.vertex_set.VertexSet.toggle_all.Goals as goal

pub invariant_of-self : goal.invariant_of-self
invariant_of-self c = in_order-rising c.xor.new.self.numbers c.xor.ensures.rising

pub returns-clause-has_room : goal.returns-clause-has_room
returns-clause-has_room c below =
    c.xor.ensures.has_room
    (below_too (ap (λ s. s.room) c.self.view_is) (ap (λ s. s.ids) c.other.view_is) below)

pub returns-clause-keeps_room : goal.returns-clause-keeps_room
returns-clause-keeps_room c below =
    let is = ap (λ s. s.room) c.self.view_is in
    let kept = c.xor.ensures.keeps_room (below_too is (ap (λ s. s.ids) c.other.view_is) below) in
    omega (arith, is, kept)
