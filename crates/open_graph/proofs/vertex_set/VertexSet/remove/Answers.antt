use Rattle.std.proofs.Common.{◌∙◌, ap, ◌==◌, ◌&&◌, not}
use Rattle.zx_model.specs.Bits.{member}
use Rattle.zx_calculus.proofs.Ids.{removed}
use Rattle.open_graph.proofs.RowLemmas.{in_order-rising, taken_out}
use Rattle.open_graph.proofs.vertex_set.VertexSet.remove.Goals as goal

pub returns-clause-ids : goal.returns-clause-ids
returns-clause-ids c =
    taken_out c.args.id c.self.inside.numbers.numbers c.remove.new.self.numbers c.self.invariant c.remove.ensures.rising
    (λ q. c.remove.ensures.members q ∙ ap (λ n. member q c.self.inside.numbers.numbers && not (q == n)) c.get.ensures)
    ∙ ap (λ s. removed c.args.id s.ids) c.self.view_is

pub invariant_of-self : goal.invariant_of-self
invariant_of-self c = in_order-rising c.remove.new.self.numbers c.remove.ensures.rising
