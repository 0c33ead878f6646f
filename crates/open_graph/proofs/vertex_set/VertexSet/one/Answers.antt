use Rattle.std.proofs.Common.{◌∙◌, ap, ◌==◌, []}
use Rattle.zx_model.specs.Bits.{xor, member}
use Rattle.open_graph.proofs.RowLemmas.{in_order-rising, only_one}
use Rattle.open_graph.proofs.vertex_set.VertexSet.one.Goals as goal

pub returns : goal.returns
returns c =
    only_one c.args.id c.toggle.new.self.numbers (in_order-rising c.toggle.new.self.numbers c.in_ok-toggle.ensures.rising)
    (λ q. c.in_ok-toggle.ensures.ok q ∙ ap (λ xs. xor (member q xs) (q == c.get.result)) c.new-numbers.ensures ∙ ap (λ n. xor (member q []) (q == n)) c.get.ensures)
