-- The vertex with its set.
use Rattle.std.proofs.Common.{◌∙◌, ap, [], ◌∷◌}
use Rattle.zx_flow.specs.Internal.Sets.{table_of}
use Rattle.zx_flow.proofs.TableChanges.{fresh_table, first_table, holds_first, at_err}
use Rattle.zx_flow.proofs.corrections.Corrections.add_first.Goals as goal

pub returns-in_err-add_one-clause-err : goal.returns-in_err-add_one-clause-err
returns-in_err-add_one-clause-err c =
    at_err c.from_residual.result
    (fresh_table c.self.invariant c.self.view_is c.add_one.new.self.lists c.args.v c.requires c.add_one.ensures.others)

pub returns-in_err-insert-clause-err : goal.returns-in_err-insert-clause-err
returns-in_err-insert-clause-err c =
    at_err c.from_residual-in_err-insert.result
    (ap (table_of c.add_one.new.self.lists) c.in_err-insert.ensures.items
    ∙ fresh_table c.self.invariant c.self.view_is c.add_one.new.self.lists c.args.v c.requires c.add_one.ensures.others)

pub invariant_of-self-2 : goal.invariant_of-self-2
invariant_of-self-2 c =
    rw c.in_ok-insert.ensures.items (holds_first c.self.invariant c.self.view_is c.add_one.new.self.lists c.args.v c.requires c.add_one.ensures.grown
    c.in_ok-add_one.ensures.place)

pub returns-clause-ok : goal.returns-clause-ok
returns-clause-ok c =
    ap (table_of c.add_one.new.self.lists) c.in_ok-insert.ensures.items
    ∙ first_table c.self.invariant c.self.view_is c.add_one.new.self.lists c.args.v (c.args.w ∷ []) c.requires c.add_one.ensures.others
    c.in_ok-add_one.ensures.own
