use Rattle.std.proofs.Common.{not, sym, ap, ◌∙◌}
use Rattle.std.specs.Option.{is_some}
use Rattle.qasm_names.proofs.PlaceLemmas.{any-here, any-next}
use Rattle.qasm_names.proofs.bodies.any_unplaced.Goals as goal
use Rattle.qasm_scope.specs.Faults.{is_other}
use Rattle.qasm_names.specs.Places.{place_in}

pub returns-then-is_none : goal.returns-then-is_none
returns-then-is_none c = sym (
    c.loop-name.invariant
    ∙ any-here (is_other (place_in c.args.places.now)) (λ name. name.now) c.args.names.now c.loop-name.name-index _ c.loop-name-test.true
    (ap not (ap is_some (sym c.find.ensures) ∙ c.if-is_none.ensures)))

pub loop-name-preserved : goal.loop-name-preserved
loop-name-preserved c =
    c.loop-name.invariant
    ∙ any-next (is_other (place_in c.args.places.now)) (λ name. name.now) c.args.names.now c.loop-name.name-index _ c.loop-name-test.true
    (ap not (ap is_some (sym c.find.ensures) ∙ c.if-is_none.ensures))
