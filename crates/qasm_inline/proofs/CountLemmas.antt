-- A program without a fault that may make so many calls means a circuit of no more gates.
use Rattle.std.proofs.Common.{◌≡◌, ℕ, ◌+◌, ◌≤◌, Bool, true, false, if◌then◌else◌, List, [], ◌∷◌, ◌++◌, length, Option, None, Some, Result, Ok, Err, refl, ap, arith, nat_le, nat_lt}
use Rattle.std.specs.List.{flat_map}
use Rattle.std.specs.Str.{bytes_eq}
use Rattle.std.proofs.lemmas.Bool.Decides.{nat_tests}
use Rattle.std.proofs.lemmas.List.{length-append}
use Rattle.zx_gates.specs.declared.elementary.Measure.{Measure}
use Rattle.qasm_angle.specs.declared.angle.Angle.{Angle}
use Rattle.qasm_angle.specs.Sixteenths.{phase_of_angle}
use Rattle.qasm_reader.specs.Syntax.{Callee, Declared, U, Cx, GateForm, BodySentence, BodyApplied, BodyBarrier}
use Rattle.qasm_reader.specs.Syntax.{Applied, Sentence, Version, Act, Placed}
use Rattle.qasm_scope.specs.declared.causes.Cause.{Cause}
use Rattle.qasm_scope.specs.declared.causes.Cause.TheVariants as cause
use Rattle.qasm_scope.specs.Angles.{angles_of}
use Rattle.qasm_scope.specs.Applications.{instances, ranges_of}
use Rattle.qasm_scope.specs.Calls.{Event, Called, Undefined, applied, call, call_count, body_call, deepest, expand, expand_declared, expand_meaning, first_wrong, u_of}
use Rattle.qasm_scope.specs.Calls as event
use Rattle.qasm_scope.specs.Meaning.{after_statement, events_of, fault_after, first_fault, gates_after, is_version, wrong_with}
use Rattle.qasm_scope.specs.Measurements.{measured_by}
use Rattle.qasm_scope.specs.Faults.{wrong_in}
use Rattle.qasm_scope.specs.Scope.{Scope, Meaning, Gate, lookup_in}
use Rattle.qasm_unroll.specs.Internal.KeptCalls.{u_events, cx_events}
use Rattle.qasm_unroll.proofs.EventLemmas.{applied-append, call_count-append}
use Rattle.qasm_unroll.proofs.MeantLemmas.{none-both, none-second, version-from, version-after}

-- ---- calls
-- no more gates act than calls are made, and this number besides
abbrev AreFew : ℕ → List Event → Type 0
AreFew more events = length (applied events) ≤ call_count events + more

few-append : (a b : List Event) → AreFew 0 a → AreFew 0 b → AreFew 0 (a ++ b)
few-append a b h k =
    omega (arith, h, k, ap length (applied-append a b), length-append (applied a) (applied b), call_count-append a b)

few-flat_map : {A : Type 0} (f : A → List Event) (xs : List A) → ((x : A) → AreFew 0 (f x)) → AreFew 0 (flat_map f xs)
few-flat_map f [] h = omega arith
few-flat_map f (x ∷ xs) h = few-append (f x) (flat_map f xs) (h x) (few-flat_map f xs h)

u_of-few : (q : ℕ) (theta phi lambda : Option ℕ) → AreFew 1 (u_of q theta phi lambda)
u_of-few q (Some theta) (Some phi) (Some lambda) = omega arith
u_of-few q _ _ _ = omega arith

u-few : (angles : List Angle) (qubits : List ℕ) → AreFew 1 (u_events angles qubits)
u-few (theta ∷ phi ∷ lambda ∷ []) (q ∷ []) = u_of-few q (phase_of_angle theta) (phase_of_angle phi) (phase_of_angle lambda)
u-few _ _ = omega arith

cx-few : (qubits : List ℕ) → AreFew 1 (cx_events qubits)
cx-few (control ∷ target ∷ []) = omega arith
cx-few _ = omega arith

-- each gate of the scope
abbrev GatesAreFew : Scope → Type 0
GatesAreFew scope = (name : List ℕ) (depth : ℕ) (angles : List Angle) (qubits : List ℕ) → AreFew 0 (expand_declared scope name depth angles qubits)

expand-few : (scope : Scope) (gate : Callee) (depth : ℕ) (angles : List Angle) (qubits : List ℕ) → GatesAreFew scope
    → AreFew 1 (expand (λ n d a q. expand_declared scope n d a q) gate depth angles qubits)
expand-few scope U depth angles qubits gates = u-few angles qubits
expand-few scope Cx depth angles qubits gates = cx-few qubits
expand-few scope (Declared name) depth angles qubits gates = omega (arith, gates name depth angles qubits)

call-few : (scope : Scope) (gate : Callee) (depth : ℕ) (angles : Result (List Angle) Cause) (qubits : List ℕ) → GatesAreFew scope
    → AreFew 0 (call (λ n d a q. expand_declared scope n d a q) gate depth angles qubits)
call-few scope gate depth (Err what) qubits gates = omega arith
call-few scope gate depth (Ok angles) qubits gates = omega (arith, expand-few scope gate depth angles qubits gates)

sentence-few : (scope : Scope) (form : GateForm) (depth : ℕ) (angles : List Angle) (qubits : List ℕ) → GatesAreFew scope → (s : BodySentence)
    → AreFew 0 (body_call (λ n d a q. expand_declared scope n d a q) form depth angles qubits s)
sentence-few scope form depth angles qubits gates (BodyBarrier names) = omega arith
sentence-few scope form depth angles qubits gates (BodyApplied a) = call-few scope a.gate (depth + 1) (angles_of form.parameters angles a.angles) _ gates

meaning-few : (b : Bool) (scope : Scope) (m : Meaning) (name : List ℕ) (depth : ℕ) (angles : List Angle) (qubits : List ℕ) → GatesAreFew scope
    → AreFew 0 (if b then expand_meaning (λ n d a q. expand_declared scope n d a q) m depth angles qubits else expand_declared scope name depth angles qubits)
meaning-few true scope (Gate form) name depth angles qubits gates =
    few-flat_map (body_call (λ n d a q. expand_declared scope n d a q) form depth angles qubits) form.body (sentence-few scope form depth angles qubits gates)
meaning-few false scope m name depth angles qubits gates = gates name depth angles qubits
meaning-few true scope _ name depth angles qubits gates = omega arith

gates-few : (scope : Scope) → GatesAreFew scope
gates-few [] name depth angles qubits = omega arith
gates-few (d ∷ scope) name depth angles qubits =
    meaning-few (bytes_eq d.name name) scope d.meaning name depth angles qubits (gates-few scope)

-- ---- statements
statement-few : (scope : Scope) (sentence : Sentence) → AreFew 0 (events_of scope sentence)
statement-few scope (Act (Applied a)) =
    few-flat_map (λ qubits. call (expand_declared scope) a.gate 1 (angles_of [] [] a.angles) qubits) (instances (ranges_of (lookup_in scope) a.qubits))
    (λ qubits. call-few scope a.gate 1 (angles_of [] [] a.angles) qubits (gates-few scope))
statement-few scope _ = omega arith

-- where nothing is wrong, calls were few
called-at : (many deep : Bool) (rest : Option Cause) → (if many then Some cause.TooManyGates else (if deep then Some cause.TooDeep else rest)) ≡ None
    → (many ≡ false) × (rest ≡ None)
called-at false false rest h = (refl, h)
called-at _ _ rest h = absurd (cc)

calls-few : (most calls : ℕ) (events : List Event) → calls ≤ most → first_wrong most calls events ≡ None → calls + call_count events ≤ most
calls-few most calls [] few h = omega arith
calls-few most calls (Called depth ∷ events) few h =
    let both = called-at (nat_le most calls) (nat_lt deepest depth) (first_wrong most (calls + 1) events) h in
    let more : calls + 1 ≤ most = grind (arith, nat_tests, both.0) in
    omega (arith, calls-few most (calls + 1) events more both.1)
calls-few most calls (Undefined what ∷ events) few h = absurd (cc)
calls-few most calls (event.Applied gate ∷ events) few h = calls-few most calls events few h

after-few : (most : ℕ) (scope : Scope) (measured : List Measure) (calls : ℕ) (statements : List Placed) → calls ≤ most
    → fault_after most scope measured calls statements ≡ None → calls + length (gates_after scope statements) ≤ most
after-few most scope measured calls [] few h = omega arith
after-few most scope measured calls (s ∷ statements) few h =
    let both = none-both (wrong_with most scope measured calls s.sentence) s.place _ h in
    let made : calls + call_count (events_of scope s.sentence) ≤ most =
    calls-few most calls (events_of scope s.sentence) few (none-second _ _ (none-second (wrong_in scope s.sentence) _ both.0)) in
    omega (
      arith,
      after-few most (after_statement scope s.sentence) (measured ++ measured_by scope s.sentence) (calls + call_count (events_of scope s.sentence)) statements made both.1,
      statement-few scope s.sentence,
      length-append (applied (events_of scope s.sentence)) (gates_after (after_statement scope s.sentence) statements),
    )

version-few : (scope : Scope) (sentence : Sentence) → is_version sentence ≡ true → length (applied (events_of scope sentence)) ≡ 0
version-few scope (Version real) h = refl
version-few scope sentence h = absurd (cc)

pub faultless-few_gates : (most : ℕ) (program : List Placed) → first_fault most program ≡ None → length (gates_after [] program) ≤ most
unfolding first_fault
faultless-few_gates most [] h = absurd (cc)
faultless-few_gates most (s ∷ statements) h =
    let both = version-from (is_version s.sentence) (fault_after most [] [] 0 statements) _ h in
    omega (
      arith,
      after-few most [] [] 0 statements (omega arith) both.1,
      version-few [] s.sentence both.0,
      length-append (applied (events_of [] s.sentence)) (gates_after (after_statement [] s.sentence) statements),
      ap (λ scope. length (gates_after scope statements)) (version-after [] s.sentence both.0),
    )
