-- Statements of gates' bodies, and gates whose bodies are taken in one statement after the other.
use Rattle.std.proofs.Common.{◌≡◌, ℕ, Bool, true, false, ◌||◌, List, [], ◌∷◌, ◌++◌, map, None, refl, sym, ap, ap₂, ◌∙◌, append-nil}
use Rattle.std.specs.List.{list_any}
use Rattle.std.specs.Global.{Vec}
use Rattle.std.proofs.lemmas.List.{map-append}
use Rattle.std.proofs.lemmas.List.Folds.{list_any-append}
use Rattle.qasm_reader.specs.Parts.{with_statement}
use Rattle.qasm_reader.specs.Syntax.{BodyApply, BodySentence, BodyApplied, BodyBarrier, DeclareGate, GateForm}
use Rattle.qasm_scope.specs.Faults.{wrong_in, body_is_unsupported, body_has_same_qubit, is_other, body_has_unknown, body_has_wrong_count}
use Rattle.qasm_names.specs.Begun.{IsBegun}
use Rattle.qasm_names.specs.Bodies.{no_faults, is_faulty, joined, cause_of, faults_of}
use Rattle.qasm_names.specs.Internal.Applications.{statement_faults, IsCall}
use Rattle.qasm_names.specs.Checks.{Symbols, lookup_by, kept_by}
use Rattle.qasm_names.specs.Kept.{Represents, kept_call, kept_calls, form_calls, KeptNames}
use Rattle.qasm_scope.specs.Scope.{Scope}
use Rattle.qasm_scope.specs.Angles.{FormalPlaces}
use Rattle.qasm_names.specs.declared.body_faults.BodyFaults.{BodyFaults}
use Rattle.qasm_names.specs.declared.formals.Formals.{Formals}
use Rattle.qasm_names.specs.declared.gate_in_progress.GateInProgress.{GateInProgress}
use Rattle.qasm_names.specs.declared.gates.GateCall.{GateCall}
use Rattle.qasm_names.specs.declared.names.Names.{Names}
use Rattle.qasm_names.specs.Places.{place_in}
use Rattle.qasm_names.proofs.CheckLemmas.{gate_cause-none, same-kept, same-places, wrong_gate-names}
use Rattle.qasm_names.proofs.Tests.{or-first, or-pairs}
use Rattle.std.proofs.lemmas.Bool.{or_left, or_right}
use Rattle.std.proofs.Math.Bool.{or-false}

-- ---- faults together
same_faults : {a b c d e f g h : Bool} → a ≡ e → b ≡ f → c ≡ g → d ≡ h
    → let left : BodyFaults = record { unsupported = a; unknown = b; wrong_count = c; same_qubit = d } in
    let right : BodyFaults = record { unsupported = e; unknown = f; wrong_count = g; same_qubit = h } in left ≡ right
same_faults p q r s = cc

faulty-joined : (f g : BodyFaults) → is_faulty (joined f g) ≡ (is_faulty f || is_faulty g)
faulty-joined f g =
    ap (λ x. x || (f.wrong_count || g.wrong_count) || (f.same_qubit || g.same_qubit)) (or-pairs f.unsupported g.unsupported f.unknown g.unknown)
    ∙ ap (λ x. x || (f.same_qubit || g.same_qubit)) (or-pairs (f.unsupported || f.unknown) (g.unsupported || g.unknown) f.wrong_count g.wrong_count)
    ∙ or-pairs (f.unsupported || f.unknown || f.wrong_count) (g.unsupported || g.unknown || g.wrong_count) f.same_qubit g.same_qubit

faultless_before : (f g : BodyFaults) → is_faulty (joined f g) ≡ false → is_faulty f ≡ false
faultless_before f g h = or-first (is_faulty f) (is_faulty g) (sym (faulty-joined f g) ∙ h)

pub faulty_later : (f g : BodyFaults) → is_faulty g ≡ true → is_faulty (joined f g) ≡ true
faulty_later f g h = faulty-joined f g ∙ or_right (is_faulty f) (is_faulty g) h

pub faulty_earlier : (f g : BodyFaults) → is_faulty f ≡ true → is_faulty (joined f g) ≡ true
faulty_earlier f g h = faulty-joined f g ∙ or_left (is_faulty f) (is_faulty g) h

any-push : {A : Type 0} (p : A → Bool) (xs : List A) (x : A) → list_any p (xs ++ x ∷ []) ≡ (list_any p xs || p x)
any-push p xs x = list_any-append p xs (x ∷ []) ∙ ap (λ b. list_any p xs || b) (or-false (p x))

faults-push : (symbols : Symbols) (formals : Formals) (body : List BodySentence) (s : BodySentence)
    → faults_of symbols formals (body ++ s ∷ []) ≡ joined (faults_of symbols formals body) (statement_faults symbols formals s)
faults-push symbols formals body s =
    same_faults (any-push body_is_unsupported body s) (any-push (body_has_unknown (lookup_by symbols) (place_in formals.parameters) (place_in formals.qubits)) body s)
    (any-push (body_has_wrong_count (lookup_by symbols)) body s) (any-push body_has_same_qubit body s)

pub calls-append : (names : KeptNames) (parameters qubits : FormalPlaces) (body more : List BodySentence)
    → kept_calls names parameters qubits (body ++ more) ≡ kept_calls names parameters qubits body ++ kept_calls names parameters qubits more
calls-append names parameters qubits [] more = refl
calls-append names parameters qubits (BodyApplied a ∷ body) more = ap (λ calls. kept_calls names parameters qubits (BodyApplied a ∷ []) ++ calls) (calls-append names parameters qubits body more)
calls-append names parameters qubits (BodyBarrier others ∷ body) more = calls-append names parameters qubits body more

-- ---- a gate with one statement more, if the statement's faults and calls are added
begun-next : (names : Names) (gate : GateInProgress) (faults : BodyFaults) (calls : Vec GateCall) (form : GateForm) (s : BodySentence)
    → faults ≡ joined gate.faults (statement_faults names.symbols gate.formals s)
    → (is_faulty faults ≡ false → map kept_call calls.items
    ≡ map kept_call gate.calls.items ++ kept_calls (kept_by names.symbols) (place_in gate.formals.parameters) (place_in gate.formals.qubits) (s ∷ []))
    → IsBegun names gate form → IsBegun names (record gate { faults = faults; calls = calls }) (with_statement form s)
begun-next names gate faults calls form s same more b = record {
  same_name = b.same_name;
  same_angles = b.same_angles;
  same_qubits = b.same_qubits;
  parameter_places = b.parameter_places;
  qubit_places = b.qubit_places;
  redeclared = b.redeclared;
  faults = same ∙ ap (λ f. joined f (statement_faults names.symbols gate.formals s)) b.faults ∙ sym (faults-push names.symbols gate.formals form.body s);
  calls = λ none.
      let before : is_faulty gate.faults ≡ false = faultless_before gate.faults (statement_faults names.symbols gate.formals s) (sym (ap is_faulty same) ∙ none) in
      more none ∙ ap (λ front. front ++ kept_calls (kept_by names.symbols) (place_in gate.formals.parameters) (place_in gate.formals.qubits) (s ∷ [])) (b.calls before)
      ∙ sym (calls-append (kept_by names.symbols) (place_in gate.formals.parameters) (place_in gate.formals.qubits) form.body (s ∷ []));
}

joined-none : (f : BodyFaults) → joined f no_faults ≡ f
joined-none f = same_faults (or-false f.unsupported) (or-false f.unknown) (or-false f.wrong_count) (or-false f.same_qubit)

pub begun-call : (names : Names) (gate : GateInProgress) (calls : Vec GateCall) (form : GateForm) (a : BodyApply) (call : GateCall)
    → calls.items ≡ gate.calls.items ++ call ∷ [] → IsCall names.symbols gate.formals a call → IsBegun names gate form
    → IsBegun names (record gate { calls = calls }) (with_statement form (BodyApplied a))
begun-call names gate calls form a call pushed k b =
    begun-next names gate gate.faults calls form (BodyApplied a)
    (sym (ap (joined gate.faults) k.faultless ∙ joined-none gate.faults))
    (λ none. ap (map kept_call) pushed ∙ map-append kept_call gate.calls.items (call ∷ []) ∙ ap (λ calls. map kept_call gate.calls.items ++ calls) k.same) b

pub begun-faults : (names : Names) (gate : GateInProgress) (form : GateForm) (s : BodySentence) (faults : BodyFaults)
    → faults ≡ joined gate.faults (statement_faults names.symbols gate.formals s) → is_faulty faults ≡ true → IsBegun names gate form
    → IsBegun names (record gate { faults = faults }) (with_statement form s)
begun-faults names gate form s faults same some b =
    begun-next names gate faults gate.calls form s same (λ none. absurd (cc (some, none))) b

pub begun-barrier : (names : Names) (gate : GateInProgress) (form : GateForm) (qubits : List (List ℕ)) (none : BodyFaults) (unknown : Bool) (faults : BodyFaults)
    → none ≡ no_faults → unknown ≡ list_any (is_other (place_in gate.formals.qubits)) qubits → faults ≡ joined gate.faults (record none { unknown = unknown })
    → IsBegun names gate form → IsBegun names (record gate { faults = faults }) (with_statement form (BodyBarrier qubits))
begun-barrier names gate form qubits none unknown faults eq found same b =
    let with_unknown : BodyFaults → Bool → BodyFaults = λ f u. record f { unknown = u } in
    begun-next names gate faults gate.calls form (BodyBarrier qubits) (same ∙ ap (joined gate.faults) (ap₂ with_unknown eq found))
    (λ faultless. sym (append-nil (map kept_call gate.calls.items))) b

-- ---- a gate that is taken in whole
pub begun-cause : (names : Names) (gate : GateInProgress) (form : GateForm) (scope : Scope) → IsBegun names gate form → Represents names scope
    → cause_of gate.faults gate.redeclared ≡ wrong_in scope (DeclareGate form)
begun-cause names gate form scope b r =
    ap₂ cause_of b.faults b.redeclared
    ∙ wrong_gate-names names.symbols scope gate.formals.parameters gate.formals.qubits form r.same_symbols r.sound b.parameter_places b.qubit_places

none-faulty : (f : BodyFaults) (redeclared : Bool) → cause_of f redeclared ≡ None → is_faulty f ≡ false
none-faulty f redeclared h =
    let parts = gate_cause-none _ _ _ _ _ h in
    ap₂ ◌||◌ (ap₂ ◌||◌ (ap₂ ◌||◌ parts.0 parts.2) parts.3) parts.4

pub begun-calls : (names : Names) (gate : GateInProgress) (form : GateForm) (scope : Scope) → IsBegun names gate form → Represents names scope
    → wrong_in scope (DeclareGate form) ≡ None → map kept_call gate.calls.items ≡ form_calls scope form
begun-calls names gate form scope b r right =
    b.calls (none-faulty gate.faults gate.redeclared (begun-cause names gate form scope b r ∙ right))
    ∙ (λ i. kept_calls (same-kept names.symbols scope r.same_symbols i) (same-places gate.formals.parameters form.parameters b.parameter_places i)
    (same-places gate.formals.qubits form.qubits b.qubit_places i) form.body)
