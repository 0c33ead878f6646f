-- An edge behind the last one is behind all.
use Rattle.std.proofs.Common.{◌∙◌, sym, subst}
use Rattle.zx_text.specs.Internal.Parts.{IsLastOf}
use Rattle.zx_text.proofs.PartLemmas.{after_last_of}
use Rattle.zx_text.proofs.graph_part.GraphPart.is_after_last.Goals as goal

pub returns-in-Some : goal.returns-in-Some
returns-in-Some c =
    c.comes_before.ensures
    ∙ after_last_of c.args.a c.args.b (sym c.self.view_is) c.self.invariant.0.valid (subst (λ last. IsLastOf c.self.inside.graph.graph.edges last) c.in-Some.is c.self.invariant.1)
