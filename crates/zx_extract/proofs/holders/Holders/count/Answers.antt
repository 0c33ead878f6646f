use Rattle.std.proofs.Common.{◌≡◌, ◌∙◌, ap, ltb, List, ℕ, true, length, subst}
use Rattle.std.specs.Prelude.{count_by}
use Rattle.zx_calculus.specs.Graph.{in_order}
use Rattle.gflow_laws.specs.Flow.{Correction, is_in}
use Rattle.zx_extract.specs.Internal.Holders.{Holders}
use Rattle.zx_extract.proofs.HoldersCounting.{count_held}
use Rattle.zx_extract.proofs.holders.Holders.count.Goals as goal

pub returns : goal.returns
returns c =
    c.len.ensures.value ∙ ap length c.get.ensures
    ∙ count_held c.self.inside.held.lists c.args.s c.self.inside.order.items
    (subst (λ (l : List ℕ). in_order ltb l ≡ true) c.get.ensures c.len.ensures.rising) c.self.invariant
    ∙ ap (λ (h : Holders). count_by (λ (e : Correction). is_in e.members c.args.s) h.flow) c.self.view_is
