use Rattle.std.proofs.Common.{◌≡◌, ◌++◌, ◌∷◌, [], Err, ap, sym, ◌∙◌, rules}
use Rattle.std.proofs.lemmas.Result.{err_from_is_err_and}
use Rattle.qasm_names.specs.declared.statement_error.StatementError.TheVariants.{Wrong}
use Rattle.qasm_scope.specs.Calls.{first_wrong}
use Rattle.qasm_unroll.specs.Internal.KeptCalls.{stack_events}
use Rattle.qasm_scope.specs.Meaning.{most_calls}
use Rattle.qasm_unroll.proofs.Unrolling.{frames-push, first-entered}
use Rattle.qasm_unroll.proofs.unroll.Unrolled.unroll.Goals as goal

pub returns-in_err-enter-clause-err : goal.returns-in_err-enter-clause-err
returns-in_err-enter-clause-err c = λ cause e numbered unrolls.
    let p = err_from_is_err_and c.from_residual.result c.from_residual.ensures.1 in
    let same : c.enter.result ≡ Err (Wrong cause) = c.in_err-enter.was ∙ ap Err (sym p.2) ∙ sym p.1 ∙ e in
    ap (first_wrong most_calls c.args.self.now.calls) (first-entered numbered c.args.gates.now c.args.called c.args.self.now c.requires) ∙ c.enter.ensures.err cause same numbered unrolls

pub returns-in_err-step-clause-err : goal.returns-in_err-step-clause-err
returns-in_err-step-clause-err c = λ cause e numbered unrolls.
    let p = err_from_is_err_and c.from_residual-in_err-step.result c.from_residual-in_err-step.ensures.1 in
    let same : c.step.result ≡ Err (Wrong cause) = c.in_err-step.was ∙ ap Err (sym p.2) ∙ sym p.1 ∙ e in
    let popped : c.loop-frame.self.frames.items ≡ c.pop.new.self.items ++ c.in-Some.frame ∷ [] = search rules in
    (c.loop-frame.invariant.leads numbered unrolls).same_wrong
    ∙ ap (λ frames. first_wrong most_calls c.loop-frame.self.calls (stack_events numbered c.args.gates.now frames c.loop-frame.self.angles.items c.loop-frame.self.qubits.items))
    (frames-push c.pop.new.self.items c.loop-frame.self.frames.items c.in-Some.frame popped)
    ∙ c.step.ensures.err cause same numbered unrolls
