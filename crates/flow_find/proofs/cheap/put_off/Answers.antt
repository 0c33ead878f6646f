-- Taken out and put in again.
use Rattle.std.proofs.Common.{sym, ap, ◌∙◌, subst, List, ℕ, insert}
use Rattle.flow_find.specs.Internal.Next.{IsPutOff}
use Rattle.flow_find.proofs.Choosing.{put_later}
use Rattle.flow_find.proofs.cheap.put_off.Goals as goal

pub returns : goal.returns
returns c =
    subst (IsPutOff c.args.place c.args.last c.args.order.now.items)
    (sym (c.in_ok-insert.ensures.items ∙ ap (λ (l : List ℕ). insert l c.args.last c.remove-v.result) c.remove-v.ensures.items))
    (put_later c.args.place c.args.last c.args.order.now.items c.remove-v.result c.requires.ordered c.requires.within c.remove-v.ensures.value)
