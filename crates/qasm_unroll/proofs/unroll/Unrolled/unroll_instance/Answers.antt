use Rattle.std.proofs.Common.{◌≡◌, [], Err, map, ap, sym, ◌∙◌}
use Rattle.std.proofs.lemmas.Result.{err_from_is_err_and, on_ok_weaker}
use Rattle.qasm_names.specs.declared.statement_error.StatementError.TheVariants.{Wrong}
use Rattle.qasm_scope.specs.Calls.{after_angles}
use Rattle.qasm_scope.specs.Meaning.{most_calls}
use Rattle.qasm_unroll.specs.Internal.KeptCalls.{expand_called, values_of}
use Rattle.qasm_unroll.specs.Internal.Spans.{span_range, cut_instance}
use Rattle.qasm_unroll.proofs.Unrolling.{Continues-counted, wrong-counted, instance-called}
use Rattle.qasm_unroll.proofs.unroll.Unrolled.unroll_instance.Goals as goal

pub returns-in_err-count-clause-err : goal.returns-in_err-count-clause-err
returns-in_err-count-clause-err c = λ cause e numbered unrolls.
    let p = err_from_is_err_and c.from_residual.result c.from_residual.ensures.1 in
    let same : c.count.result ≡ Err (Wrong cause) = c.in_err-count.was ∙ ap Err (sym p.2) ∙ sym p.1 ∙ e in
    c.count.ensures.err cause (after_angles (values_of c.args.angles.now []) (λ values. expand_called numbered c.args.called 1 values (cut_instance (map span_range c.args.spans.now) c.args.index))) same

pub returns-clause-ok : goal.returns-clause-ok
returns-clause-ok c = on_ok_weaker c.unroll.result
    (λ h numbered unrolls.
    Continues-counted most_calls _ _ _ _ _ _ _ _ _ _
    (instance-called numbered c.args.called c.args.angles.now c.clear-2.new.self.items c.push_values.new.angles.items c.clear-3.new.self.items
    (cut_instance (map span_range c.args.spans.now) c.args.index) c.push_instance.new.qubits.items c.clear-2.ensures.items c.clear-3.ensures.items c.in_ok-push_values.ensures.ok c.in_ok-push_instance.ensures)
    c.in_ok-count.ensures.ok c.in_ok-count.ensures.calls (ap (λ u. u.gates) c.count.ensures.others) (h numbered unrolls))
    c.unroll.ensures.ok

pub returns-clause-err : goal.returns-clause-err
returns-clause-err c = λ cause e numbered unrolls.
    wrong-counted most_calls _ _ _ _ _ cause
    (instance-called numbered c.args.called c.args.angles.now c.clear-2.new.self.items c.push_values.new.angles.items c.clear-3.new.self.items
    (cut_instance (map span_range c.args.spans.now) c.args.index) c.push_instance.new.qubits.items c.clear-2.ensures.items c.clear-3.ensures.items c.in_ok-push_values.ensures.ok c.in_ok-push_instance.ensures)
    c.in_ok-count.ensures.ok (c.unroll.ensures.err cause e numbered unrolls)
