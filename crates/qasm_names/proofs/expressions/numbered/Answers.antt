use Rattle.std.proofs.Common.{◌≡◌, true, map, sym, ap, subst, ◌∙◌}
use Rattle.std.specs.List.{list_any}
use Rattle.qasm_reader.specs.Items.{entry}
use Rattle.qasm_reader.specs.Postfix.{formula_of}
use Rattle.qasm_names.specs.Internal.Entries.{is_other_entry, AreSteps}
use Rattle.qasm_names.specs.Places.{place_in}
use Rattle.qasm_names.proofs.Formulas.{steps-placed, IsPlaced-steps, other-entries}
use Rattle.qasm_names.proofs.expressions.numbered.Goals as goal
use Rattle.qasm_scope.specs.Angles.{numbered}

pub new-requires : goal.new-requires
new-requires c =
    let f = c.args.expression.now in
    let at_items : AreSteps c.args.places.now (map entry c.items.result.now) c.in-Some.steps.items = rw c.in-Some.is at c.in_ok-steps.ensures.some in
    let steps = subst (λ es. AreSteps c.args.places.now es c.in-Some.steps.items) c.items.ensures.value at_items in
    (numbered (place_in c.args.places.now) (formula_of f), steps-placed c.args.places.now f c.in-Some.steps.items c.items.ensures.postfix steps)

pub returns-in_ok-folded-in-Some-clause-some : goal.returns-in_ok-folded-in-Some-clause-some
returns-in_ok-folded-in-Some-clause-some c =
    let f = c.args.expression.now in
    let at_items : AreSteps c.args.places.now (map entry c.items.result.now) c.in-Some.steps.items = rw c.in-Some.is at c.in_ok-steps.ensures.some in
    let steps = subst (λ es. AreSteps c.args.places.now es c.in-Some.steps.items) c.items.ensures.value at_items in
    let tree = steps-placed c.args.places.now f c.in-Some.steps.items c.items.ensures.postfix steps in
    IsPlaced-steps c.args.places.now f c.in-Some.steps.items c.in_ok-folded-in-Some.field-0 c.items.ensures.postfix steps
    (c.in_ok-folded-in-Some.ensures ∙ c.new.ensures.tree (numbered (place_in c.args.places.now) (formula_of f)) tree)

pub returns-in-None-clause-none : goal.returns-in-None-clause-none
returns-in-None-clause-none c =
    let other : list_any (is_other_entry c.args.places.now) (map entry c.items.result.now) ≡ true = rw c.in-None.is at c.in_ok-steps.ensures.none in
    sym (other-entries c.args.places.now c.args.expression.now c.items.ensures.postfix)
    ∙ ap (list_any (is_other_entry c.args.places.now)) (sym c.items.ensures.value) ∙ other
