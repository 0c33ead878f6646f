use Rattle.std.proofs.Common.{◌∙◌, ap, List, ℕ, ◌-◌, length}
use Rattle.std.specs.Prelude.{slice_get}
use Rattle.zx_model.specs.Bits.{member}
use Rattle.zx_extract.specs.Internal.Holders.{Holders}
use Rattle.zx_extract.proofs.HoldersTurning.{last_told, last_absent}
use Rattle.zx_extract.proofs.holders.Holders.last_has.Goals as goal

pub returns-in-Some : goal.returns-in-Some
returns-in-Some c before e is =
    c.contains.ensures ∙ ap (member c.in-Some.v.now) c.get.ensures
    ∙ last_told c.self.inside.held.lists c.self.inside.order.items c.args.s c.in-Some.v.now before e
    (c.in-Some.ensures.value ∙ ap (λ (l : List ℕ). slice_get l (length l - 1)) c.deref.ensures.value)
    (ap (λ (h : Holders). h.flow) c.self.view_is ∙ is)

pub returns-in-None : goal.returns-in-None
returns-in-None c before e is =
    absurd (last_absent c.self.inside.held.lists c.self.inside.order.items before e
    (c.in-None.ensures.value ∙ ap (λ (l : List ℕ). slice_get l (length l - 1)) c.deref.ensures.value)
    (ap (λ (h : Holders). h.flow) c.self.view_is ∙ is))
