-- An input more.
use Rattle.std.proofs.Common.{sym, ap, subst, ◌∙◌, nat_le}
use Rattle.zx_calculus.specs.Graph.{IsVertex}
use Rattle.zx_text.specs.Internal.Stepping.{Part}
use Rattle.zx_text.proofs.PartLemmas.{end_live}
use Rattle.zx_text.proofs.graph_part.GraphPart.take_input.Goals as goal

pub add_input-requires-clause-live : goal.add_input-requires-clause-live
add_input-requires-clause-live c =
    subst (IsVertex c.self.inside.graph.graph) (sym c.new-vertex.ensures)
    (end_live (nat_le c.args.self.now.section 2) c.args.self.now.graph.inputs c.args.v (ap (λ (p : Part). p.graph) (sym c.self.view_is)) c.self.invariant.0 (sym c.may_have_input.ensures ∙ c.if-not-may_have_input.false))
