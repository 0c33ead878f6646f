use Rattle.std.proofs.Common.{sym, ap, ◌∙◌}
use Rattle.std.specs.List.{list_any}
use Rattle.qasm_names.specs.Internal.Entries.{has_no_place}
use Rattle.qasm_names.proofs.Formulas.{unplaced-entries}
use Rattle.qasm_names.proofs.expressions.has_other_name.Goals as goal

pub loop-item-init : goal.loop-item-init
loop-item-init c =
    sym (unplaced-entries c.args.places.now c.args.expression.now c.items-item-items.ensures.postfix)
    ∙ ap (list_any (has_no_place c.args.places.now)) (sym c.items-item-items.ensures.value)
