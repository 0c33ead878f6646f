-- The gate, its angles and its arguments, or which of them isn't there.
use Rattle.std.proofs.Common.{◌≡◌, true, map, length, sym, ap, subst, ◌∙◌, arith}
use Rattle.std.proofs.lemmas.List.{length-map}
use Rattle.qasm_reader.specs.Postfix.{formula_of}
use Rattle.qasm_reader.specs.Views.{application, operand}
use Rattle.qasm_names.specs.AppliedGates.{IsAppliedGate, gate_faults, has_fault}
use Rattle.qasm_names.specs.Checks.{lookup_by}
use Rattle.qasm_unroll.specs.Internal.Spans.{span_range, any_missing, AreSpans}
use Rattle.qasm_unroll.proofs.ApplyLemmas.{unresolved-gate, unresolved-arguments, resolved-from}
use Rattle.qasm_unroll.proofs.applying.resolved.Goals as goal

pub returns-in_default-clause-none : goal.returns-in_default-clause-none
returns-in_default-clause-none c =
    let a = application c.args.application.now in
    let symbols = c.args.names.now.symbols in
    let formals = c.none-formals.result in
    let count : c.len-count.result ≡ length a.qubits = omega (arith, c.len-count.ensures, c.args.application.now.qubits.ok.0, length-map c.args.application.now.qubits.items operand) in
    let wrong : has_fault (gate_faults symbols formals a.gate (map formula_of c.deref.result.now) c.len-count.result) ≡ true = rw c.in_default.is at c.in_ok-applied.ensures.none in
    unresolved-gate symbols formals a c.none-formals.ensures.parameters c.none-formals.ensures.qubits
    (subst (λ n. has_fault (gate_faults symbols formals a.gate a.angles n) ≡ true) count
    (subst (λ es. has_fault (gate_faults symbols formals a.gate (map formula_of es) c.len-count.result) ≡ true) c.deref.ensures.value wrong))

pub returns-in_default-2-clause-none : goal.returns-in_default-2-clause-none
returns-in_default-2-clause-none c =
    let symbols = c.args.names.now.symbols in
    let missing : any_missing (lookup_by symbols) (map operand c.deref-2.result.now) ≡ true = rw c.in_default-2.is at c.in_ok-spans.ensures.none in
    unresolved-arguments symbols (application c.args.application.now) (ap (λ qs. any_missing (lookup_by symbols) (map operand qs)) (sym c.deref-2.ensures.value) ∙ missing)

pub returns-clause-some : goal.returns-clause-some
returns-clause-some c =
    let a = application c.args.application.now in
    let symbols = c.args.names.now.symbols in
    let formals = c.none-formals.result in
    let applied = c.in-Some.applied in
    let count : c.len-count.result ≡ length a.qubits = omega (arith, c.len-count.ensures, c.args.application.now.qubits.ok.0, length-map c.args.application.now.qubits.items operand) in
    let gate : IsAppliedGate symbols formals a.gate (map formula_of c.deref.result.now) c.len-count.result applied = rw c.in-Some.is at c.in_ok-applied.ensures.some in
    let spans : AreSpans (lookup_by symbols) (map operand c.deref-2.result.now) (map span_range c.in-Some-2.spans.items) = rw c.in-Some-2.is at c.in_ok-spans.ensures.some in
    resolved-from symbols formals a applied (map span_range c.in-Some-2.spans.items) c.none-formals.ensures.parameters c.none-formals.ensures.qubits
    (subst (λ n. IsAppliedGate symbols formals a.gate a.angles n applied) count
    (subst (λ es. IsAppliedGate symbols formals a.gate (map formula_of es) c.len-count.result applied) c.deref.ensures.value gate))
    (subst (λ qs. AreSpans (lookup_by symbols) (map operand qs) (map span_range c.in-Some-2.spans.items)) c.deref-2.ensures.value spans)
