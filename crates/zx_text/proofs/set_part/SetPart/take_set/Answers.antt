-- The set of the next vertex.
use Rattle.std.proofs.Common.{ap, ◌∙◌}
use Rattle.zx_text.proofs.SetLemmas.{next_of, next_inside, set_taken}
use Rattle.gflow_laws.proofs.Tables.{order_of-with_sets}
use Rattle.gflow_laws.specs.Flow.{order_of}
use Rattle.zx_model.specs.Bits.{member}
use Rattle.zx_text.proofs.set_part.SetPart.take_set.Goals as goal

pub set-requires : goal.set-requires
set-requires c =
    c.self.invariant.1 c.args.v (next_inside c.self.inside.all.items c.self.inside.place c.args.v (next_of c.self.inside.all.items c.self.inside.place c.args.v c.self.view_is c.requires.next))

pub invariant_of-self : goal.invariant_of-self
invariant_of-self c =
    (c.self.invariant.0, λ v inside. ap (λ t. member v (order_of t)) c.set.ensures ∙ ap (member v) (order_of-with_sets _ c.self.inside.table.table) ∙ c.self.invariant.1 v inside)

pub returns-in-Some-clause-added : goal.returns-in-Some-clause-added
returns-in-Some-clause-added c = λ e.
    set_taken c.self.inside.all.items c.self.inside.place c.args.v c.args.members.now c.in-Some.set.ids c.self.view_is (next_of c.self.inside.all.items c.self.inside.place c.args.v c.self.view_is c.requires.next) (rw c.in-Some.is at c.in_ok-set.ensures.some) c.set.ensures
