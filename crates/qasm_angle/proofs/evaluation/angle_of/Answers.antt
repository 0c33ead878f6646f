use Rattle.std.proofs.lemmas.Result.{err_from_is_err_and}
use Rattle.std.proofs.Common.{◌≤◌, refl, sym, ◌∙◌, ap, Ok, Err, [], length, arith}
use Rattle.qasm_angle.proofs.EvaluationLemmas.{value-last, value-failed, some_steps, error_of-same, Err_same}
use Rattle.qasm_angle.proofs.evaluation.angle_of.Goals as goal

pub returns-in_default-clause-cause : goal.returns-in_default-clause-cause
returns-in_default-clause-cause c =
    λ _ _. absurd (omega (arith, some_steps c.args.e.now, ap length c.steps.ensures, c.in_default.ensures.cases))

pub returns-in_err-push_step-clause-cause : goal.returns-in_err-push_step-clause-cause
returns-in_err-push_step-clause-cause c =
    let p = err_from_is_err_and c.from_residual-in_err-push_step.result c.from_residual-in_err-push_step.ensures.1 in
    λ cause e. value-failed c.args.e.now _ _ _ _ _ _ c.steps.ensures c.in-Some.ensures.cases.0 c.loop-step.invariant c.step-item.result cause c.loop-step-test.true c.step-item.is
    (c.in_err-push_step.ensures.cause cause (ap Err (sym p.2 ∙ Err_same (sym p.1 ∙ e))))

pub returns-in_err-take_step-clause-cause : goal.returns-in_err-take_step-clause-cause
returns-in_err-take_step-clause-cause c =
    let p = err_from_is_err_and c.from_residual-in_err-take_step.result c.from_residual-in_err-take_step.ensures.1 in
    λ cause e. value-last c.args.e.now _ _ _ _ _ _ c.steps.ensures c.in-Some.ensures.cases.0 c.loop-step.invariant c.loop-step-test.false (Err c.in_err-take_step.field-0.0) [] c.in_err-take_step.ensures
    ∙ ap Err (error_of-same c.in_err-take_step.field-0.0 cause (sym p.2 ∙ Err_same (sym p.1 ∙ e)))

pub returns-clause-value : goal.returns-clause-value
returns-clause-value c =
    value-last c.args.e.now _ _ _ _ _ _ c.steps.ensures c.in-Some.ensures.cases.0 c.loop-step.invariant c.loop-step-test.false (Ok c.in_ok-take_step.field-0) _ c.in_ok-take_step.ensures

pub returns-in_err-angle_alone-clause-cause : goal.returns-in_err-angle_alone-clause-cause
returns-in_err-angle_alone-clause-cause c =
    let p = err_from_is_err_and c.from_residual.result c.from_residual.ensures.1 in
    let empty : length c.in-Some.before.now ≤ 0 = grind arith in
    λ cause e. value-last c.args.e.now _ _ _ _ 0 [] c.steps.ensures c.in-Some.ensures.cases.0 refl empty (Err c.in_err-angle_alone.field-0.0) [] c.in_err-angle_alone.ensures
    ∙ ap Err (error_of-same c.in_err-angle_alone.field-0.0 cause (sym p.2 ∙ Err_same (sym p.1 ∙ e)))

pub returns-then-is_empty-clause-value : goal.returns-then-is_empty-clause-value
returns-then-is_empty-clause-value c =
    let empty : length c.in-Some.before.now ≤ 0 = grind arith in
    value-last c.args.e.now _ _ _ _ 0 [] c.steps.ensures c.in-Some.ensures.cases.0 refl empty (Ok c.in_ok-angle_alone.field-0) [] c.in_ok-angle_alone.ensures
