use Rattle.std.proofs.Common.{◌≡◌, ◌+◌, ◌++◌, ◌∷◌, length, drop, take, reverse, Err, ap, sym, ◌∙◌, arith}
use Rattle.std.proofs.lemmas.List.{length-reverse}
use Rattle.std.proofs.lemmas.Result.{err_from_is_err_and, on_ok_weaker}
use Rattle.qasm_names.specs.declared.statement_error.StatementError.TheVariants.{Wrong}
use Rattle.qasm_scope.specs.Calls.{Called, first_wrong}
use Rattle.qasm_scope.specs.Meaning.{most_calls}
use Rattle.qasm_unroll.specs.Internal.KeptCalls.{Numbered, calls_left, expand_called, followed, frames_of, left_events, picked, stack_events, values_of}
use Rattle.qasm_unroll.proofs.Unrolling.{after_call, split-call, next_call, next_call_first, Continues-counted, wrong-counted}
use Rattle.qasm_unroll.proofs.unroll.Unrolled.step.Goals as goal
use Rattle.qasm_unroll.proofs.unroll.Unrolled.step.Goals.{After-enter}

pub returns-in_err-count-clause-err : goal.returns-in_err-count-clause-err
returns-in_err-count-clause-err c = λ cause e numbered unrolls.
    let p = err_from_is_err_and c.from_residual.result c.from_residual.ensures.1 in
    let same : c.count.result ≡ Err (Wrong cause) = c.in_err-count.was ∙ ap Err (sym p.2) ∙ sym p.1 ∙ e in
    let frame = c.args.frame in
    let deep : c.depth-depth.result + 2 ≡ length (frames_of c.args.self.now) + 2 = omega (arith, c.depth-depth.ensures, length-reverse c.args.self.now.frames.items) in
    let split : calls_left c.args.gates.now frame ≡ c.in-Some.call.now ∷ calls_left c.args.gates.now (after_call frame) =
    ap (drop frame.next) (sym c.calls_of.ensures) ∙ split-call c.calls_of.result.now frame.next c.in-Some.call.now (c.in-Some.ensures.lookup.3).0 c.in-Some.ensures.lookup.1
    ∙ ap (λ calls. c.in-Some.call.now ∷ drop (frame.next + 1) calls) c.calls_of.ensures in
    let first = next_call_first numbered c.args.gates.now (c.depth-depth.result + 2) (frames_of c.args.self.now) frame c.args.self.now.angles.items c.args.self.now.qubits.items c.in-Some.call.now deep split in
    ap (first_wrong most_calls c.args.self.now.calls) first.1 ∙ c.count.ensures.err cause first.0 same

-- what was left begins with the call, and goes on with what was pushed
next : (c : After-enter) (numbered : Numbered) → left_events c.args.gates.now (c.args.frame ∷ frames_of c.args.self.now) c.args.self.now numbered
    ≡ Called (c.depth-depth.result + 2)
    ∷ (expand_called numbered c.in-Some.call.now.called (1 + length (reverse c.push.new.self.items)) (drop c.heights-base.result.angles c.push_values.new.angles.items)
    (drop c.heights-base.result.qubits c.push_picked.new.qubits.items)
    ++ stack_events numbered c.args.gates.now (reverse c.push.new.self.items) (take c.heights-base.result.angles c.push_values.new.angles.items)
    (take c.heights-base.result.qubits c.push_picked.new.qubits.items))
next c numbered =
    let frame = c.args.frame in
    let counted = c.count.new.self in
    let deep : c.depth-depth.result + 2 ≡ length counted.frames.items + 2 = omega (arith, c.depth-depth.ensures, ap (λ u. length u.frames.items) c.count.ensures.others) in
    let split : calls_left c.args.gates.now frame ≡ c.in-Some.call.now ∷ calls_left c.args.gates.now (after_call frame) =
    ap (drop frame.next) (sym c.calls_of.ensures) ∙ split-call c.calls_of.result.now frame.next c.in-Some.call.now (c.in-Some.ensures.lookup.3).0 c.in-Some.ensures.lookup.1
    ∙ ap (λ calls. c.in-Some.call.now ∷ drop (frame.next + 1) calls) c.calls_of.ensures in
    let values = ap (λ es. followed counted.angles.items (values_of es (drop frame.base.angles counted.angles.items))) (sym c.deref.ensures.value) ∙ c.in_ok-push_values.ensures.ok in
    let places = c.in_ok-push_picked.ensures ∙ ap (λ ps. counted.qubits.items ++ picked (drop frame.base.qubits counted.qubits.items) ps) c.deref-2.ensures in
    next_call numbered c.args.gates.now (c.depth-depth.result + 2) c.heights-base.result.angles c.heights-base.result.qubits c.args.self.now counted frame c.push.new.self.items c.push_values.new.angles.items c.push_picked.new.qubits.items c.in-Some.call.now
    c.count.ensures.others deep c.heights-base.ensures.angles c.heights-base.ensures.qubits split c.in_ok-push.ensures.items values places

pub returns-clause-ok : goal.returns-clause-ok
returns-clause-ok c = on_ok_weaker c.enter.result
    (λ h numbered unrolls.
    Continues-counted most_calls _ _ _ _ _ _ _ _ _ _ (next (goal.at.returns-clause-ok c).After-enter numbered)
    c.in_ok-count.ensures.ok c.in_ok-count.ensures.calls (ap (λ u. u.gates) c.count.ensures.others) (h numbered unrolls))
    c.enter.ensures.ok

pub returns-clause-err : goal.returns-clause-err
returns-clause-err c = λ cause e numbered unrolls.
    wrong-counted most_calls _ _ _ _ _ cause (next (goal.at.returns-clause-err c).After-enter numbered) c.in_ok-count.ensures.ok (c.enter.ensures.err cause e numbered unrolls)
