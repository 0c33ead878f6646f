use Rattle.std.proofs.Common.{◌∙◌, ap, ◌==◌}
use Rattle.zx_model.specs.Bits.{xor, member}
use Rattle.zx_calculus.proofs.Positions.{on_ok}
use Rattle.open_graph.specs.Internal.Rows.{inserted}
use Rattle.open_graph.proofs.RowLemmas.{in_order-rising, toggled_in}
use Rattle.open_graph.proofs.vertex_set.VertexSet.insert.Goals as goal

pub returns-clause-ok : goal.returns-clause-ok
returns-clause-ok c =
    on_ok c.toggle.result
    (λ toggled. toggled_in c.args.id c.self.inside.numbers.numbers c.toggle.new.self.numbers (ap (λ s. member c.args.id s.ids) c.self.view_is ∙ c.requires) c.self.invariant
    c.toggle.ensures.rising
    (λ q. toggled q ∙ ap (λ n. xor (member q c.self.inside.numbers.numbers) (q == n)) c.get.ensures) ∙ ap (λ s. inserted c.args.id s.ids) c.self.view_is)
    c.toggle.ensures.ok

pub invariant_of-self : goal.invariant_of-self
invariant_of-self c = in_order-rising c.toggle.new.self.numbers c.toggle.ensures.rising
