use Rattle.std.proofs.Common.{◌≡◌, ◌∙◌, ap, ℕ, List, ◌-◌, length, take, vec_len, arith}
use Rattle.std.specs.Prelude.{slice_get}
use Rattle.zx_extract.specs.Internal.Holders.{Holders}
use Rattle.zx_extract.proofs.HoldersTables.{Taken, cut_last, taken_linked}
use Rattle.zx_extract.proofs.holders.Holders.take_linked.Goals as goal
use Rattle.zx_extract.proofs.holders.Holders.take_linked.Goals.{After-pop}

gone : (c : After-pop) → Taken c.clear.new.self.lists c.pop.new.self.items c.args.self.now.flow
gone c =
    let order = c.self.inside.order.items in
    let long : vec_len c.self.inside.order ≡ length order = omega (arith, c.self.inside.order.ok.0) in
    taken_linked c.in-Some.v (cut_last order c.pop.new.self.items c.in-Some.v (c.in-Some.ensures ∙ c.last.ensures.value
    ∙ ap (λ (l : List ℕ). slice_get l (length l - 1)) c.deref.ensures.value)
    (c.pop.ensures.rest ∙ ap (λ n. take (n - 1) order) long)) c.self.invariant
    (ap (λ (h : Holders). h.flow) c.self.view_is) c.requires c.in_ok-toggle_set.ensures.ok
    (c.clear.ensures.own, c.clear.ensures.others)

pub invariant_of-self-in-Some : goal.invariant_of-self-in-Some
invariant_of-self-in-Some c = (gone (goal.at.invariant_of-self-in-Some c).After-pop).ordered

pub returns-in_ok-toggle_set : goal.returns-in_ok-toggle_set
returns-in_ok-toggle_set c = (gone (goal.at.returns-in_ok-toggle_set c).After-pop).sets
