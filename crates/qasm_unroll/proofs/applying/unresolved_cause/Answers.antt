-- What is wrong with the gate and the names is what is wrong with the application.
use Rattle.std.proofs.Common.{◌≡◌, false, map, length, sym, ap, ap₂, ◌∙◌, arith}
use Rattle.std.proofs.lemmas.List.{length-map}
use Rattle.std.specs.List.{list_any}
use Rattle.qasm_scope.specs.Angles.{is_unsupported}
use Rattle.qasm_scope.specs.Faults.{has_unknown, has_wrong_count}
use Rattle.qasm_reader.specs.Postfix.{formula_of}
use Rattle.qasm_reader.specs.Views.{application, operand}
use Rattle.qasm_names.specs.AppliedGates.{gate_faults}
use Rattle.qasm_names.specs.Checks.{lookup_by}
use Rattle.qasm_unroll.specs.Internal.Spans.{unresolved_cause}
use Rattle.qasm_unroll.proofs.ApplyLemmas.{same-causes}
use Rattle.qasm_unroll.proofs.applying.unresolved_cause.Goals as goal
use Rattle.qasm_unroll.proofs.applying.unresolved_cause.Goals.{After-is_unknown}

-- the causes by the gate's faults
causes : (c : After-is_unknown) → unresolved_cause c.gate_faults-faults.result.unsupported c.is_unknown.result c.gate_faults-faults.result.wrong_count
    ≡ unresolved_cause (list_any is_unsupported (application c.args.application.now).angles) (has_unknown (lookup_by c.args.names.now.symbols) (application c.args.application.now))
    (has_wrong_count (lookup_by c.args.names.now.symbols) (application c.args.application.now))
causes c =
    let a = application c.args.application.now in
    let symbols = c.args.names.now.symbols in
    let formals = c.none-formals.result in
    let faults = c.gate_faults-faults.result in
    let count : c.len-count.result ≡ length a.qubits = omega (arith, c.len-count.ensures, c.args.application.now.qubits.ok.0, length-map c.args.application.now.qubits.items operand) in
    let same : faults ≡ gate_faults symbols formals a.gate a.angles (length a.qubits) =
    c.gate_faults-faults.ensures ∙ ap₂ (λ es n. gate_faults symbols formals a.gate (map formula_of es) n) c.deref.ensures.value count in
    same-causes symbols formals a faults c.is_unknown.result c.none-formals.ensures.parameters c.none-formals.ensures.qubits same c.is_unknown.ensures

pub returns-then-is_unknown : goal.returns-then-is_unknown
returns-then-is_unknown c =
    sym (ap₂ (λ u k. unresolved_cause u k c.gate_faults-faults.result.wrong_count) c.if-faults.false c.if-is_unknown.true)
    ∙ causes (goal.at.returns-then-is_unknown c).After-is_unknown

pub returns-then-faults-2 : goal.returns-then-faults-2
returns-then-faults-2 c =
    sym (ap₂ (λ u k. unresolved_cause u k c.gate_faults-faults.result.wrong_count) c.if-faults.false c.if-is_unknown.false ∙ ap (λ w. unresolved_cause false false w) c.if-faults-2.true)
    ∙ causes (goal.at.returns-then-faults-2 c).After-is_unknown

pub returns : goal.returns
returns c =
    sym (ap₂ (λ u k. unresolved_cause u k c.gate_faults-faults.result.wrong_count) c.if-faults.false c.if-is_unknown.false ∙ ap (λ w. unresolved_cause false false w) c.if-faults-2.false)
    ∙ causes (goal.at.returns c).After-is_unknown
