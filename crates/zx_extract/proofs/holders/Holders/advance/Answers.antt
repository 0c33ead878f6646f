use Rattle.std.proofs.Common.{◌≡◌, sym, ◌∙◌, ap, subst, ◌-◌, length, take, vec_len, arith}
use Rattle.gflow_laws.specs.Flow.{SameSets}
use Rattle.gflow_laws.specs.Outputs.{advanced_table}
use Rattle.zx_extract.specs.Internal.Holders.{Holders, table_from, IsOrdered}
use Rattle.zx_extract.proofs.HoldersTables.{cut, SameSets-advanced, ordered_advanced}
use Rattle.zx_extract.proofs.holders.Holders.advance.Goals as goal

pub invariant_of-self : goal.invariant_of-self
invariant_of-self c =
    let order = c.self.inside.order.items in
    let held = c.self.inside.held.lists in
    let some = c.requires in
    let long : vec_len c.self.inside.order ≡ length order = omega (arith, c.self.inside.order.ok.0) in
    subst (λ rest. IsOrdered rest c.clear.new.self.lists) (sym (c.pop.ensures.rest ∙ ap (λ n. take (n - 1) order) long))
    (ordered_advanced held c.clear.new.self.lists order c.args.x some.0 some.1 (c.clear.ensures.own, c.clear.ensures.others) c.self.invariant
    (cut held order some.0 some.1 (ap (λ (h : Holders). h.flow) c.self.view_is ∙ some.2)) some.3)

pub returns : goal.returns
returns c before e is =
    let order = c.self.inside.order.items in
    let held = c.self.inside.held.lists in
    let long : vec_len c.self.inside.order ≡ length order = omega (arith, c.self.inside.order.ok.0) in
    subst (λ rest. SameSets (table_from c.clear.new.self.lists rest) (advanced_table c.args.x before))
    (sym (c.pop.ensures.rest ∙ ap (λ n. take (n - 1) order) long))
    (SameSets-advanced held c.clear.new.self.lists order c.args.x before e (c.clear.ensures.own, c.clear.ensures.others)
    (cut held order before e (ap (λ (h : Holders). h.flow) c.self.view_is ∙ is)))
