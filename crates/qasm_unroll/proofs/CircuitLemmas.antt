-- A program's statements one after the other.
use Rattle.std.proofs.Common.{◌≡◌, ℕ, ◌<◌, ◌≤◌, length, map, take, get_or, add-one, ◌+◌, ◌-◌, ◌^◌, min, Bool, true, false, List, [], ◌∷◌, ◌++◌, None, Some, Err, refl, sym, ap, ap₂, subst, ◌∙◌, append_assoc, append-nil, add-zero, arith}
use Rattle.std.specs.Prelude.{if◌then◌else◌}
use Rattle.std.proofs.Math.Seq.{take-suc}
use Rattle.std.proofs.lemmas.Grind.{common_steps}
use Rattle.std.proofs.lemmas.List.{map-append}
use Rattle.std.specs.Option.{option_or}
use Rattle.zx_gates.specs.declared.elementary.ElementaryGate.{ElementaryGate}
use Rattle.zx_gates.specs.Circuit.{most_qubits}
use Rattle.zx_gates.specs.declared.elementary.Measure.{Measure}
use Rattle.zx_gates.specs.Elementary.{most_bits}
use Rattle.qasm_reader.specs.Syntax.{GateForm, Sentence, Version, DeclareGate, Placed}
use Rattle.qasm_scope.specs.declared.causes.Cause.{Cause}
use Rattle.qasm_scope.specs.declared.causes.Cause.TheVariants as cause
use Rattle.qasm_names.specs.declared.names.Names.{Names}
use Rattle.qasm_unroll.specs.declared.circuit.Stage.{Stage}
use Rattle.qasm_unroll.specs.declared.circuit.Stage.TheVariants.{Open, Stopped}
use Rattle.qasm_unroll.specs.declared.error.InlineError.{InlineError}
use Rattle.qasm_unroll.specs.declared.error.InlineError.TheVariants.{Fault, NoMemory}
use Rattle.qasm_unroll.specs.declared.measured.Measured.{Measured}
use Rattle.qasm_unroll.specs.declared.unroll.Unrolled.{Unrolled}
use Rattle.qasm_scope.specs.Calls.{applied, call_count}
use Rattle.qasm_unroll.specs.Circuits.{HasTakenAt, IsCircuitAnswer, IsEmpty, IsOpen, LeadsTo, gate_at}
use Rattle.qasm_unroll.specs.Internal.KeptCalls.{Continues, expand_number}
use Rattle.qasm_scope.specs.Faults.{wrong_in}
use Rattle.qasm_names.specs.Kept.{Represents}
use Rattle.qasm_scope.specs.Meaning.{after_statement, events_of, fault_after, first_fault, gates_after, is_version, measures_after, most_calls, scope_after, wrong_with}
use Rattle.qasm_scope.specs.Measurements.{measured_by}
use Rattle.qasm_scope.specs.Scope.{Scope, Gate, bit_count, declared, qubit_count}
use Rattle.qasm_scope.proofs.Placing.{placed_or}
use Rattle.qasm_unroll.proofs.KnownLemmas.{known-declared, nothing-known}
use Rattle.qasm_unroll.proofs.MeantLemmas.{faultless-few}

-- ---- the version
pub no_statement : first_fault most_calls [] ≡ Some (cause.Version, 0)
unfolding first_fault
no_statement = refl

version-idle : (s : Sentence) → is_version s ≡ true → (after_statement [] s ≡ []) × (events_of [] s ≡ []) × (measured_by [] s ≡ [])
version-idle (Version real) h = (refl, refl, refl)
version-idle _ h = absurd (cc)

first_is : (s : Placed) (more : List Placed) (b : Bool) → is_version s.sentence ≡ b
    → first_fault most_calls (s ∷ more) ≡ (if b then fault_after most_calls [] [] 0 more else Some (cause.Version, s.place))
unfolding first_fault
first_is s more b h = ap (λ c. if c then fault_after most_calls [] [] 0 more else Some (cause.Version, s.place)) h

leads-version : (s : Placed) (measured : List Measure) (calls : ℕ) (gates : List ElementaryGate) → is_version s.sentence ≡ true → measured ≡ [] → calls ≡ 0 → gates ≡ [] → LeadsTo (s ∷ []) [] measured calls gates
leads-version s measured calls gates h unmeasured uncalled empty = record {
  same_fault = λ more. first_is s more true h ∙ ap₂ (λ ms n. fault_after most_calls [] ms n more) (sym unmeasured) (sym uncalled);
  same_scope = λ more. ap (λ scope. scope_after scope more) (version-idle s.sentence h).0;
  same_gates = λ more. ap (λ events. applied events ++ gates_after (after_statement [] s.sentence) more) (version-idle s.sentence h).1
      ∙ ap (λ scope. gates_after scope more) (version-idle s.sentence h).0 ∙ ap (λ gs. gs ++ gates_after [] more) (sym empty);
  same_measures = λ more. ap (λ ms. ms ++ measures_after (after_statement [] s.sentence) more) (version-idle s.sentence h).2
      ∙ ap (λ scope. measures_after scope more) (version-idle s.sentence h).0 ∙ ap (λ ms. ms ++ measures_after [] more) (sym unmeasured);
}

first_by : (s : Placed) (names : Names) (measured : Measured) (unrolled : Unrolled) (b : Bool) → is_version s.sentence ≡ b → IsEmpty [] names measured unrolled
    → HasTakenAt (if b then Open else Stopped (Fault cause.Version s.place)) (s ∷ []) names measured unrolled
first_by s names measured unrolled true h e = record {
  scope = [];
  represents = e.represents;
  remembers = e.remembers;
  leads = leads-version s measured.list unrolled.calls unrolled.gates h e.no_measures e.no_calls e.no_gates;
  knows = nothing-known (expand_number []) 0 unrolled.known.items e.no_known;
}
first_by s names measured unrolled false h e = λ more. first_is s more false h

-- the first statement is taken in
pub first-taken : (s : Placed) (stage : Stage) (program : List Placed) (names : Names) (measured : Measured) (unrolled : Unrolled)
    → stage ≡ (if is_version s.sentence then Open else Stopped (Fault cause.Version s.place)) → IsEmpty program names measured unrolled
    → HasTakenAt stage (program ++ s ∷ []) names measured unrolled
first-taken s stage program names measured unrolled h e =
    let start : IsEmpty [] names measured unrolled = record { none = refl; represents = e.represents; no_calls = e.no_calls; no_gates = e.no_gates; no_known = e.no_known; remembers = e.remembers; no_measures = e.no_measures } in
    subst (λ x. HasTakenAt x (program ++ s ∷ []) names measured unrolled) (sym h)
    (subst (λ ss. HasTakenAt (if is_version s.sentence then Open else Stopped (Fault cause.Version s.place)) (ss ++ s ∷ []) names measured unrolled) (sym e.none)
    (first_by s names measured unrolled (is_version s.sentence) refl start))

-- ---- statements after it
pub leads-next : (program : List Placed) (scope : Scope) (measured : List Measure) (calls : ℕ) (gates : List ElementaryGate) (s : Placed) (all : List Measure) (later : ℕ) (others : List ElementaryGate)
    → LeadsTo program scope measured calls gates → wrong_with most_calls scope measured calls s.sentence ≡ None
    → Continues most_calls calls gates (events_of scope s.sentence) later others [] → all ≡ measured ++ measured_by scope s.sentence
    → LeadsTo (program ++ s ∷ []) (after_statement scope s.sentence) all later others
leads-next program scope measured calls gates s all later others h right k e =
    let events = events_of scope s.sentence in
    let count : calls + call_count events ≡ later = k.same_calls ∙ add-zero later in
    record {
      same_fault = λ more. ap (first_fault most_calls) (append_assoc program (s ∷ []) more) ∙ h.same_fault (s ∷ more)
          ∙ ap (λ c. placed_or c s.place (fault_after most_calls (after_statement scope s.sentence) (measured ++ measured_by scope s.sentence) (calls + call_count events) more)) right
          ∙ ap₂ (λ ms n. fault_after most_calls (after_statement scope s.sentence) ms n more) (sym e) count;
      same_scope = λ more. ap (scope_after []) (append_assoc program (s ∷ []) more) ∙ h.same_scope (s ∷ more);
      same_gates = λ more. ap (gates_after []) (append_assoc program (s ∷ []) more) ∙ h.same_gates (s ∷ more)
          ∙ sym (append_assoc gates (applied events) (gates_after (after_statement scope s.sentence) more))
          ∙ ap (λ gs. gs ++ gates_after (after_statement scope s.sentence) more) (k.same_gates ∙ append-nil others);
      same_measures = λ more. ap (measures_after []) (append_assoc program (s ∷ []) more) ∙ h.same_measures (s ∷ more)
          ∙ sym (append_assoc measured (measured_by scope s.sentence) (measures_after (after_statement scope s.sentence) more))
          ∙ ap (λ ms. ms ++ measures_after (after_statement scope s.sentence) more) (sym e);
    }

pub leads-wrong : (program : List Placed) (scope : Scope) (measured : List Measure) (calls : ℕ) (gates : List ElementaryGate) (s : Placed) (what : Cause)
    → LeadsTo program scope measured calls gates → wrong_with most_calls scope measured calls s.sentence ≡ Some what
    → (more : List Placed) → first_fault most_calls ((program ++ s ∷ []) ++ more) ≡ Some (what, s.place)
leads-wrong program scope measured calls gates s what h wrong more =
    ap (first_fault most_calls) (append_assoc program (s ∷ []) more) ∙ h.same_fault (s ∷ more)
    ∙ ap (λ c. placed_or c s.place (fault_after most_calls (after_statement scope s.sentence) (measured ++ measured_by scope s.sentence) (calls + call_count (events_of scope s.sentence)) more)) wrong

-- once it has stopped, a circuit stays so
pub stays-stopped : (error : InlineError) (program : List Placed) (s : Placed) (names : Names) (measured : Measured) (unrolled : Unrolled)
    → HasTakenAt (Stopped error) program names measured unrolled → HasTakenAt (Stopped error) (program ++ s ∷ []) names measured unrolled
stays-stopped (Fault what at) program s names measured unrolled h = λ more. ap (first_fault most_calls) (append_assoc program (s ∷ []) more) ∙ h (s ∷ more)
stays-stopped NoMemory program s names measured unrolled h = tt

-- ---- gates behind these statements
pub gate-first : (program : List Placed) (names : Names) (measured : Measured) (unrolled : Unrolled) (place : ℕ) (form : GateForm) → IsEmpty program names measured unrolled
    → HasTakenAt (Stopped (Fault cause.Version place)) (program ++ gate_at place form ∷ []) names measured unrolled
gate-first program names measured unrolled place form e = first-taken (gate_at place form) (Stopped (Fault cause.Version place)) program names measured unrolled refl e

pub gate-declared : (program : List Placed) (names later : Names) (measured : Measured) (unrolled : Unrolled) (place : ℕ) (form : GateForm) → IsOpen program names measured unrolled
    → ((scope : Scope) → Represents names scope → wrong_in scope (DeclareGate form) ≡ None)
    → ((scope : Scope) → Represents names scope → Represents later (declared form.name (Gate form) ∷ scope))
    → IsOpen (program ++ gate_at place form ∷ []) later measured unrolled
gate-declared program names later measured unrolled place form is right represents = record {
  scope = declared form.name (Gate form) ∷ is.scope;
  represents = represents is.scope is.represents;
  remembers = is.remembers;
  leads = leads-next program is.scope measured.list unrolled.calls unrolled.gates (gate_at place form) measured.list unrolled.calls unrolled.gates is.leads
      (ap (λ o. option_or o None) (right is.scope is.represents)) (record { same_wrong = refl; same_gates = refl; same_calls = refl }) (sym (append-nil measured.list));
  knows = known-declared (declared form.name (Gate form)) is.scope unrolled.known.items is.knows;
}

pub gate-wrong : (program : List Placed) (names : Names) (measured : Measured) (unrolled : Unrolled) (place : ℕ) (form : GateForm) (what : Cause) → IsOpen program names measured unrolled
    → ((scope : Scope) → Represents names scope → wrong_in scope (DeclareGate form) ≡ Some what)
    → (more : List Placed) → first_fault most_calls ((program ++ gate_at place form ∷ []) ++ more) ≡ Some (what, place)
gate-wrong program names measured unrolled place form what is wrong =
    leads-wrong program is.scope measured.list unrolled.calls unrolled.gates (gate_at place form) what is.leads (ap (λ o. option_or o None) (wrong is.scope is.represents))

-- ---- circuits
few-cut : (count most limit : ℕ) → count ≤ most → most < 2 ^ limit → min count (2 ^ limit - 1) ≡ count
few-cut count most limit few large = omega arith

pub done-circuit : (program : List Placed) (scope : Scope) (measured : List Measure) (calls : ℕ) (gates : List ElementaryGate) (qubits bits : ℕ)
    → LeadsTo program scope measured calls gates → qubits ≡ qubit_count scope → bits ≡ bit_count scope
    → (first_fault most_calls program ≡ None) × (min qubits (2 ^ 16 - 1) ≡ qubit_count (scope_after [] program)) × (gates ≡ gates_after [] program)
    × (min bits (2 ^ 32 - 1) ≡ bit_count (scope_after [] program)) × (measured ≡ measures_after [] program)
done-circuit program scope measured calls gates qubits bits h eq eb =
    let same = sym (append-nil program) in
    let right : first_fault most_calls program ≡ None = ap (first_fault most_calls) same ∙ h.same_fault [] in
    let last : scope_after [] program ≡ scope = ap (scope_after []) same ∙ h.same_scope [] in
    let few = faultless-few most_calls program right in
    let as_many : qubits ≡ qubit_count (scope_after [] program) = eq ∙ ap qubit_count (sym last) in
    let as_many_bits : bits ≡ bit_count (scope_after [] program) = eb ∙ ap bit_count (sym last) in (
      right,
      ap (λ n. min n (2 ^ 16 - 1)) as_many ∙ few-cut _ most_qubits 16 few.0 (omega arith),
      sym (ap (gates_after []) same ∙ h.same_gates [] ∙ append-nil gates),
      ap (λ n. min n (2 ^ 32 - 1)) as_many_bits ∙ few-cut _ most_bits 32 few.1 (omega arith),
      sym (ap (measures_after []) same ∙ h.same_measures [] ∙ append-nil measured),
    )

pub empty-circuit : (program : List Placed) (names : Names) (measured : Measured) (unrolled : Unrolled) → IsEmpty program names measured unrolled
    → first_fault most_calls program ≡ Some (cause.Version, 0)
empty-circuit program names measured unrolled e = ap (first_fault most_calls) e.none ∙ no_statement

pub refused-circuit : (program : List Placed) (error : InlineError) (names : Names) (measured : Measured) (unrolled : Unrolled)
    → HasTakenAt (Stopped error) program names measured unrolled → IsCircuitAnswer program (Err error)
refused-circuit program (Fault what at) names measured unrolled h = ap (first_fault most_calls) (sym (append-nil program)) ∙ h []
refused-circuit program NoMemory names measured unrolled h = tt

-- ---- loops over lists
pub next-taken : {A B : Type 0} (view : A → B) (xs : List A) (i : ℕ) (x : A) → i < length xs → x ≡ get_or xs i x
    → map view (take i xs) ++ view x ∷ [] ≡ map view (take (i + 1) xs)
next-taken view xs i x h e =
    ap (λ y. map view (take i xs) ++ view y ∷ []) e
    ∙ sym (map-append view (take i xs) (get_or xs i x ∷ []))
    ∙ ap (map view) (sym (take-suc xs i x h))
    ∙ ap (λ n. map view (take n xs)) (sym (add-one i))

pub take-over : {A : Type 0} (xs : List A) (i : ℕ) → length xs ≤ i → take i xs ≡ xs
take-over [] i h = grind (arith, common_steps)
take-over (x ∷ xs) i h = grind (arith, common_steps)
