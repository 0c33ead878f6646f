use Rattle.std.proofs.Common.{◌≡◌, true, if◌then◌else◌, [], map, Option, None, Some, sym, ap, ap₂, ◌∙◌}
use Rattle.std.specs.List.{list_any}
use Rattle.std.proofs.lemmas.Result.{on_ok_weaker}
use Rattle.std.specs.Prelude.{◌==◌}
use Rattle.std.specs.Option.{option_or}
use Rattle.qasm_reader.specs.Syntax.{Act, Applied}
use Rattle.qasm_reader.specs.Views.{application}
use Rattle.qasm_scope.specs.declared.causes.Cause.{Cause}
use Rattle.qasm_scope.specs.declared.causes.Cause.TheVariants.{AfterMeasure}
use Rattle.qasm_scope.specs.Applications.{application_events, has_twice, instances, register_sizes}
use Rattle.qasm_scope.specs.Calls.{first_wrong}
use Rattle.qasm_scope.specs.Faults.{has_other_size, wrong_behind, wrong_in}
use Rattle.qasm_scope.specs.Measurements.{holds_any, qubits_of}
use Rattle.qasm_scope.specs.Scope.{Scope}
use Rattle.qasm_names.specs.Kept.{Represents, kept_body}
use Rattle.qasm_names.specs.Checks.{lookup_by}
use Rattle.qasm_unroll.specs.Internal.KeptMeasures.{Remembers}
use Rattle.qasm_scope.specs.Meaning.{most_calls}
use Rattle.qasm_unroll.specs.Internal.KeptCalls.{expand_number, values_of}
use Rattle.qasm_unroll.specs.Internal.Spans.{span_range, IsResolved, is_unresolved, resolved_cause, instances_events}
use Rattle.qasm_unroll.proofs.ApplyLemmas.{behind-resolved, wrong-unresolved, wrong-resolved, resolved-events}
use Rattle.qasm_unroll.proofs.KnownLemmas.{known-by-bodies, known-in-scope}
use Rattle.qasm_unroll.proofs.Numbers.{kept-unrolls}
use Rattle.qasm_unroll.proofs.Unrolling.{Continues-same, Continues-join}
use Rattle.qasm_unroll.proofs.applying.apply.Goals as goal
use Rattle.qasm_unroll.proofs.applying.apply.Goals.{After-has_any_qubit}

pub returns-in_default-clause-err : goal.returns-in_default-clause-err
returns-in_default-clause-err c = λ cause scope e r m k.
    let a = application c.args.application.now in
    let unresolved : is_unresolved (lookup_by c.args.names.now.symbols) a ≡ true = rw c.in_default.is at c.in_ok-resolved.ensures.none in
    let same : c.unresolved_cause-cause.result ≡ cause = cc in
    ap (λ o. option_or o (option_or (wrong_behind scope c.args.measured.now.list (Act (Applied a))) (first_wrong most_calls c.args.unrolled.now.calls (application_events scope a))))
    (wrong-unresolved c.args.names.now.symbols scope a r.same_symbols unresolved ∙ ap Some (sym c.unresolved_cause-cause.ensures ∙ same))

pub returns-in-Some-resolved_cause-clause-err : goal.returns-in-Some-resolved_cause-clause-err
returns-in-Some-resolved_cause-clause-err c = λ cause scope e r m k.
    let a = application c.args.application.now in
    let found = c.in-Some.resolved in
    let resolved : IsResolved c.args.names.now.symbols a found.gate found.angles.items (map span_range found.spans.items) = rw c.in-Some.is at c.in_ok-resolved.ensures.some in
    let same : c.in-Some-resolved_cause.cause ≡ cause = cc in
    ap (λ o. option_or o (option_or (wrong_behind scope c.args.measured.now.list (Act (Applied a))) (first_wrong most_calls c.args.unrolled.now.calls (application_events scope a))))
    (wrong-resolved c.args.names.now.symbols scope r.same_symbols r.sound resolved
    ∙ ap (λ ss. resolved_cause (has_other_size (register_sizes (map span_range ss))) (list_any (has_twice ◌==◌) (instances (map span_range ss)))) (sym c.deref.ensures.value)
    ∙ sym c.resolved_cause.ensures ∙ c.in-Some-resolved_cause.is ∙ ap Some same)

-- what is wrong with it is no cause of its own, and the cause behind the measurements is by what they hold
right : (c : After-has_any_qubit) (scope : Scope) → Represents c.args.names.now scope → wrong_in scope (Act (Applied (application c.args.application.now))) ≡ None
right c scope r =
    wrong-resolved c.args.names.now.symbols scope r.same_symbols r.sound (rw c.in-Some.is at c.in_ok-resolved.ensures.some)
    ∙ ap (λ ss. resolved_cause (has_other_size (register_sizes (map span_range ss))) (list_any (has_twice ◌==◌) (instances (map span_range ss)))) (sym c.deref.ensures.value)
    ∙ sym c.resolved_cause.ensures ∙ c.in_default-resolved_cause.is

behind : (c : After-has_any_qubit) (scope : Scope) → Represents c.args.names.now scope → Remembers c.args.measured.now
    → wrong_behind scope c.args.measured.now.list (Act (Applied (application c.args.application.now))) ≡ (if c.has_any_qubit.result then Some AfterMeasure else None)
behind c scope r m =
    behind-resolved c.args.names.now.symbols scope c.args.measured.now.list r.same_symbols r.sound (rw c.in-Some.is at c.in_ok-resolved.ensures.some)
    ∙ ap (λ ss. if list_any (holds_any (qubits_of c.args.measured.now.list)) (map span_range ss) then Some AfterMeasure else None) (sym c.deref-2.ensures.value)
    ∙ ap (λ b. if b then Some AfterMeasure else None) (sym (c.has_any_qubit.ensures m))

-- both together, before what is wrong with the calls
both : (c : After-has_any_qubit) (scope : Scope) (calls : Option Cause) → Represents c.args.names.now scope → Remembers c.args.measured.now
    → option_or (wrong_in scope (Act (Applied (application c.args.application.now)))) (option_or (wrong_behind scope c.args.measured.now.list (Act (Applied (application c.args.application.now)))) calls)
    ≡ option_or (if c.has_any_qubit.result then Some AfterMeasure else None) calls
both c scope calls r m =
    ap (λ o. option_or o (option_or (wrong_behind scope c.args.measured.now.list (Act (Applied (application c.args.application.now)))) calls)) (right c scope r)
    ∙ ap (λ o. option_or o calls) (behind c scope r m)

pub returns-then-has_any_qubit-clause-err : goal.returns-then-has_any_qubit-clause-err
returns-then-has_any_qubit-clause-err c = λ cause scope e r m k.
    let same : AfterMeasure ≡ cause = cc in
    let calls = first_wrong most_calls c.args.unrolled.now.calls (application_events scope (application c.args.application.now)) in
    both (goal.at.returns-then-has_any_qubit-clause-err c).After-has_any_qubit scope calls r m
    ∙ ap (λ b. option_or (if b then Some AfterMeasure else None) calls) c.if-has_any_qubit.true ∙ ap Some same

pub returns-clause-ok : goal.returns-clause-ok
returns-clause-ok c = on_ok_weaker c.call_instances.result (λ h scope r. right (goal.at.returns-clause-ok c).After-has_any_qubit scope r) c.call_instances.ensures.ok

pub returns-clause-behind : goal.returns-clause-behind
returns-clause-behind c = on_ok_weaker c.call_instances.result (λ h scope r m.
    behind (goal.at.returns-clause-behind c).After-has_any_qubit scope r m ∙ ap (λ b. if b then Some AfterMeasure else None) c.if-has_any_qubit.false) c.call_instances.ensures.ok

pub returns-clause-events : goal.returns-clause-events
returns-clause-events c = on_ok_weaker c.call_instances.result (λ h scope r k.
    let found = c.in-Some.resolved in
    let resolved : IsResolved c.args.names.now.symbols (application c.args.application.now) found.gate found.angles.items (map span_range found.spans.items) = rw c.in-Some.is at c.in_ok-resolved.ensures.some in
    let unrolls = kept-unrolls c.deref-3.result.now scope r.sound (ap (map kept_body) c.deref-3.ensures.value ∙ r.same_gates) in
    let same = ap₂ (λ ts ss. instances_events (expand_number scope) found.gate (values_of ts []) (map span_range ss)) c.deref-4.ensures.value c.deref-5.ensures.value
    ∙ resolved-events c.args.names.now.symbols scope r.same_symbols r.sound resolved in
    Continues-join _ _ _ _ _ _ _ _ _ _ (Continues-same _ _ _ _ _ (sym same)) (h (expand_number scope) unrolls (known-by-bodies c.deref-3.result.now scope c.args.unrolled.now.known.items (ap (map kept_body) c.deref-3.ensures.value ∙ r.same_gates) k))) c.call_instances.ensures.ok

pub returns-clause-knows : goal.returns-clause-knows
returns-clause-knows c = on_ok_weaker c.call_instances.result (λ h scope r k.
    let same = ap (map kept_body) c.deref-3.ensures.value ∙ r.same_gates in
    known-in-scope c.deref-3.result.now scope c.call_instances.new.unrolled.known.items same
    (h (expand_number scope) (kept-unrolls c.deref-3.result.now scope r.sound same) (known-by-bodies c.deref-3.result.now scope c.args.unrolled.now.known.items same k)))
    c.call_instances.ensures.known

pub returns-clause-err : goal.returns-clause-err
returns-clause-err c = λ cause scope e r m k.
    let a = application c.args.application.now in
    let found = c.in-Some.resolved in
    let resolved : IsResolved c.args.names.now.symbols a found.gate found.angles.items (map span_range found.spans.items) = rw c.in-Some.is at c.in_ok-resolved.ensures.some in
    let unrolls = kept-unrolls c.deref-3.result.now scope r.sound (ap (map kept_body) c.deref-3.ensures.value ∙ r.same_gates) in
    let same = ap₂ (λ ts ss. instances_events (expand_number scope) found.gate (values_of ts []) (map span_range ss)) c.deref-4.ensures.value c.deref-5.ensures.value
    ∙ resolved-events c.args.names.now.symbols scope r.same_symbols r.sound resolved in
    let calls = first_wrong most_calls c.args.unrolled.now.calls (application_events scope a) in
    both (goal.at.returns-clause-err c).After-has_any_qubit scope calls r m
    ∙ ap (λ b. option_or (if b then Some AfterMeasure else None) calls) c.if-has_any_qubit.false
    ∙ ap (first_wrong most_calls c.args.unrolled.now.calls) (sym same)
    ∙ c.call_instances.ensures.err cause (expand_number scope) e unrolls
    (known-by-bodies c.deref-3.result.now scope c.args.unrolled.now.known.items (ap (map kept_body) c.deref-3.ensures.value ∙ r.same_gates) k)
