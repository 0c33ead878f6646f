-- The first row with the pivot, or none.
use Rattle.std.proofs.Common.{sym, ◌∙◌, ap, List, eqb}
use Rattle.std.specs.Prelude.{position}
use Rattle.flow_find.specs.declared.row.Row.{Row}
use Rattle.flow_find.proofs.Steps.{taken, none_left}
use Rattle.flow_find.proofs.rows.take_pivot.Goals as goal

pub returns-in-Some-clause-some : goal.returns-in-Some-clause-some
returns-in-Some-clause-some c =
    taken c.args.rows.now.items c.args.v c.in-Some.i c.remove.result c.remove.new.self.items
    (ap (λ (rows : List Row). position (λ (r : Row). eqb r.pivot c.args.v) rows) (sym c.deref.ensures.value) ∙ sym c.in-Some.ensures)
    c.remove.ensures.value c.remove.ensures.items

pub returns-in-None-clause-none : goal.returns-in-None-clause-none
returns-in-None-clause-none c =
    none_left c.args.v c.args.rows.now.items
    (ap (λ (rows : List Row). position (λ (r : Row). eqb r.pivot c.args.v) rows) (sym c.deref.ensures.value) ∙ sym c.in-None.ensures)
