-- The vertex with its set.
use Rattle.std.proofs.Common.{◌∙◌, ap, arith}
use Rattle.zx_flow.specs.Internal.Sets.{table_of}
use Rattle.zx_flow.proofs.SetLemmas.{others}
use Rattle.zx_flow.proofs.TableChanges.{last_table, holds_last}
use Rattle.zx_flow.proofs.corrections.Corrections.push.Goals as goal

pub invariant_of-self-2 : goal.invariant_of-self-2
invariant_of-self-2 c =
    rw c.in_ok-push.ensures.items (holds_last c.self.invariant c.self.view_is c.put.new.self.lists c.args.v c.requires
    (omega (arith, c.make_place.ensures.grown, c.put.ensures.length))
    (omega (arith, c.in_ok-make_place.ensures.ok, c.put.ensures.length)))

pub returns-clause-ok : goal.returns-clause-ok
returns-clause-ok c =
    ap (table_of c.put.new.self.lists) c.in_ok-push.ensures.items
    ∙ last_table c.self.invariant c.self.view_is c.put.new.self.lists c.args.v c.args.set.ids c.requires
    (others c.self.inside.sets.lists c.make_place.new.self.lists c.put.new.self.lists c.args.v c.make_place.ensures.same c.put.ensures.others)
    c.put.ensures.own
