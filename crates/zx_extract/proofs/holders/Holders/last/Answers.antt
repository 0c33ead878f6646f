use Rattle.std.proofs.Common.{◌≡◌, ◌∙◌, ap, subst, List, ℕ, [], ◌∷◌, ◌++◌, ◌-◌, length}
use Rattle.std.specs.Prelude.{IfSome, slice_get}
use Rattle.gflow_laws.specs.Flow.{Correction}
use Rattle.zx_extract.specs.Internal.Holders.{Holders}
use Rattle.zx_extract.proofs.HoldersTables.{last_known}
use Rattle.zx_extract.proofs.holders.Holders.last.Goals as goal

pub returns-clause-some : goal.returns-clause-some
returns-clause-some c =
    subst (λ (h : Holders). IfSome c.copied.result (λ v. (before : List Correction) × (e : Correction) × (h.flow ≡
    before ++ e ∷ []) × (e.vertex ≡ v))) c.self.view_is
    (last_known c.self.inside.held.lists c.self.inside.order.items c.copied.result (c.copied.ensures
    ∙ c.last.ensures.value ∙ ap (λ (l : List ℕ). slice_get l (length l - 1)) c.deref.ensures.value))
