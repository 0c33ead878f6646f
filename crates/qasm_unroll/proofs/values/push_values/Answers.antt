use Rattle.std.proofs.Common.{◌≡◌, ◌++◌, ◌∷◌, [], Err, length, take, sym, ap, ◌∙◌, refl, rules, arith, ◌+◌, drop}
use Rattle.std.proofs.lemmas.Result.{err_from_is_err_and}
use Rattle.qasm_names.specs.declared.statement_error.StatementError.TheVariants.{Wrong}
use Rattle.qasm_unroll.specs.Internal.KeptCalls.{followed, values_of}
use Rattle.qasm_unroll.proofs.StackLemmas.{still-pushed, still-above, pushed-next, pushed-wrong}
use Rattle.qasm_unroll.proofs.values.push_values.Goals as goal

pub returns-in_err-value-clause-err : goal.returns-in_err-value-clause-err
returns-in_err-value-clause-err c = λ cause e.
    let p = err_from_is_err_and c.from_residual.result c.from_residual.ensures.1 in
    let was : c.value_of.result ≡ Err c.in_err-value.field-0.0 = search rules in
    let stopped : c.in_err-value.field-0.0 ≡ Wrong cause = cc (p.1, p.2, e) in
    let old = c.args.angles.now.items in
    let top : c.len-top.result ≡ length old = omega (arith, c.args.angles.now.ok.0) in
    pushed-wrong old c.loop-expression.angles.items _ _ c.args.expressions.now c.loop-expression.expression-index _ cause c.loop-expression-test.true c.expression-item.is
    (still-above c.args.base c.len-top.result c.deref.result.now old (ap (take c.len-top.result) c.deref.ensures.value ∙ ap (λ n. take n c.loop-expression.angles.items) top ∙ c.loop-expression.invariant.begun) top c.requires)
    (c.value_of.ensures.err cause (was ∙ ap Err stopped)) c.loop-expression.invariant.left

pub loop-expression-preserved : goal.loop-expression-preserved
loop-expression-preserved c =
    let old = c.args.angles.now.items in
    let top : c.len-top.result ≡ length old = omega (arith, c.args.angles.now.ok.0) in
    let items = c.loop-expression.angles.items in
    let pushed : c.push.new.self.items ≡ items ++ c.in_ok-value.value ∷ [] = search rules in
    record {
      begun = ap (take (length old)) pushed ∙ still-pushed (length old) items old c.in_ok-value.value c.loop-expression.invariant.begun refl;
      left = c.loop-expression.invariant.left
          ∙ pushed-next items _ _ c.args.expressions.now c.loop-expression.expression-index _ c.in_ok-value.value c.loop-expression-test.true c.expression-item.is
          (still-above c.args.base c.len-top.result c.deref.result.now old (ap (take c.len-top.result) c.deref.ensures.value ∙ ap (λ n. take n items) top ∙ c.loop-expression.invariant.begun) top c.requires)
          c.in_ok-value.ensures.ok
          ∙ ap (λ values. followed values (values_of (drop (c.loop-expression.expression-index + 1) c.args.expressions.now) (drop c.args.base old))) (sym pushed);
    }
