-- Gates by their number come to what they come to by name.
use Rattle.std.proofs.Common.{◌≡◌, ℕ, ◌+◌, ◌<◌, ◌==◌, Bool, true, false, slice_index_or, if◌then◌else◌, List, [], ◌∷◌, ◌++◌, map, Some, Result, Ok, Err, refl, sym, ap, ◌∙◌, arith}
use Rattle.std.specs.List.{flat_map, list_any}
use Rattle.std.specs.Str.{bytes_eq}
use Rattle.qasm_angle.specs.declared.angle.Angle.{Angle}
use Rattle.qasm_reader.specs.Syntax.{Formula, Callee, Declared, GateForm, BodySentence, BodyApplied, BodyBarrier}
use Rattle.qasm_scope.specs.declared.causes.Cause.{Cause}
use Rattle.qasm_names.specs.declared.gates.GateCall.{GateCall}
use Rattle.qasm_scope.specs.Angles.{in_prefix, angle_of, angles_of, numbered, place_of, places_among}
use Rattle.qasm_scope.specs.Calls.{Event, Called, after_angles, call, expand, body_call, expand_meaning, expand_declared}
use Rattle.qasm_scope.specs.Faults.{shape_of, is_no_gate, body_has_unknown}
use Rattle.qasm_names.specs.Kept.{KeptCall, kept_call, gate_count, gates_in, symbol_of, symbol_in, number_in, called_for, kept_calls, kept_names}
use Rattle.qasm_unroll.specs.Internal.KeptCalls.{is_numbered, expand_number}
use Rattle.qasm_names.proofs.Tests.{if-true, if-false, or-first, or-second, same_number, other_number}
use Rattle.qasm_unroll.specs.Internal.KeptCalls.{Numbered, call_events, calls_events, expand_called, called_events, values_of, picked}
use Rattle.qasm_scope.specs.Scope.{Scope, Declaration, Meaning, Gate, meaning_of, lookup_in, shape_in}

-- a number below the count isn't that of the next gate
pub not-numbered : (n count : ℕ) (m : Meaning) → n < count → is_numbered n count m ≡ false
not-numbered n count (Gate form) h = other_number count n h
not-numbered n count _ h = refl

-- a number that is there means the same after a further declaration
pub number-after : (d : Declaration) (scope : Scope) (n depth : ℕ) (angles : List Angle) (qubits : List ℕ) → n < gate_count scope
    → expand_number (d ∷ scope) n depth angles qubits ≡ expand_number scope n depth angles qubits
number-after d scope n depth angles qubits h =
    if-false (is_numbered n (gate_count scope) d.meaning) _ _ (not-numbered n (gate_count scope) d.meaning h)

-- a name of a gate has a number that is there
number-there-at : (b replaceable : Bool) (m : Meaning) (name : List ℕ) (scope : Scope)
    → (is_no_gate (shape_in (meaning_of name scope)) ≡ false → number_in (symbol_of name scope) < gate_count scope)
    → is_no_gate (shape_in (if b then Some m else meaning_of name scope)) ≡ false
    → number_in (if b then Some (symbol_in (gate_count scope) replaceable m) else symbol_of name scope) < gates_in m + gate_count scope
number-there-at true replaceable (Gate form) name scope before h = omega arith
number-there-at false replaceable m name scope before h = let k = before h in omega arith
number-there-at true replaceable _ name scope before h = absurd (cc)

pub number-there : (name : List ℕ) (scope : Scope) → is_no_gate (shape_in (meaning_of name scope)) ≡ false → number_in (symbol_of name scope) < gate_count scope
number-there name [] h = absurd (cc)
number-there name (d ∷ scope) h = number-there-at (bytes_eq d.name name) d.replaceable d.meaning name scope (number-there name scope) h

-- a gate by its number
number-name-at : (b : Bool) (d : Declaration) (m : Meaning) (name : List ℕ) (scope : Scope) (depth : ℕ) (angles : List Angle) (qubits : List ℕ) → d.meaning ≡ m
    → (is_no_gate (shape_in (meaning_of name scope)) ≡ false
    → expand_declared scope name depth angles qubits ≡ expand_number scope (number_in (symbol_of name scope)) depth angles qubits)
    → is_no_gate (shape_in (if b then Some m else meaning_of name scope)) ≡ false
    → (if b then expand_meaning (λ n d a q. expand_declared scope n d a q) m depth angles qubits else expand_declared scope name depth angles qubits)
    ≡ expand_number (d ∷ scope) (number_in (if b then Some (symbol_in (gate_count scope) d.replaceable m) else symbol_of name scope)) depth angles qubits
number-name-at true d (Gate form) name scope depth angles qubits e before h =
    sym (ap (λ m. if is_numbered (gate_count scope) (gate_count scope) m then expand_meaning (λ n d a q. expand_declared scope n d a q) m depth angles qubits
    else expand_number scope (gate_count scope) depth angles qubits) e
    ∙ if-true (gate_count scope == gate_count scope) _ _ (same_number (gate_count scope)))
number-name-at false d m name scope depth angles qubits e before h =
    before h ∙ sym (number-after d scope (number_in (symbol_of name scope)) depth angles qubits (number-there name scope h))
number-name-at true d _ name scope depth angles qubits e before h = absurd (cc)

pub number-name : (name : List ℕ) (scope : Scope) (depth : ℕ) (angles : List Angle) (qubits : List ℕ) → is_no_gate (shape_in (meaning_of name scope)) ≡ false
    → expand_declared scope name depth angles qubits ≡ expand_number scope (number_in (symbol_of name scope)) depth angles qubits
number-name name [] depth angles qubits h = refl
number-name name (d ∷ scope) depth angles qubits h =
    number-name-at (bytes_eq d.name name) d d.meaning name scope depth angles qubits refl (number-name name scope depth angles qubits) h

-- angles with parameters by their places
pub numbered-angles : (names : List (List ℕ)) (angles : List Angle) (fs : List Formula) → angles_of names angles fs ≡ values_of (map (numbered (places_among names)) fs) angles
unfolding angle_of
numbered-angles names angles [] = refl
numbered-angles names angles (f ∷ fs) = ap (in_prefix (angle_of names angles f)) (numbered-angles names angles fs)

-- qubits by their places
pub picked-places : (qubits : List ℕ) (places names : List (List ℕ))
    → map (λ name. slice_index_or qubits (place_of name places) 0) names ≡ picked qubits (map (λ name. place_of name places) names)
picked-places qubits places [] = refl
picked-places qubits places (name ∷ names) = ap (λ rest. slice_index_or qubits (place_of name places) 0 ∷ rest) (picked-places qubits places names)

-- numbers that are there mean what they mean in the scope
pub record Agrees (numbers : Numbered) (scope : Scope) : Type 0 where
  pub on : (n depth : ℕ) (angles : List Angle) (qubits : List ℕ) → n < gate_count scope → numbers n depth angles qubits ≡ expand_number scope n depth angles qubits

pub Agrees-before : (numbers : Numbered) (d : Declaration) (scope : Scope) → Agrees numbers (d ∷ scope) → Agrees numbers scope
Agrees-before numbers d scope h = record {
  on = λ n depth angles qubits k. h.on n depth angles qubits (omega arith) ∙ number-after d scope n depth angles qubits k;
}

pub Agrees-itself : (scope : Scope) → Agrees (expand_number scope) scope
Agrees-itself scope = record { on = λ n depth angles qubits k. refl }

pub after_angles-same : (r : Result (List Angle) Cause) (f g : List Angle → List Event) → ((values : List Angle) → f values ≡ g values) → after_angles r f ≡ after_angles r g
after_angles-same (Err cause) f g h = refl
after_angles-same (Ok values) f g h = h values

expand-same : (numbers : Numbered) (scope : Scope) (gate : Callee) (depth : ℕ) (angles : List Angle) (qubits : List ℕ)
    → Agrees numbers scope → is_no_gate (shape_of (lookup_in scope) gate) ≡ false
    → expand (λ n d a q. expand_declared scope n d a q) gate depth angles qubits ≡ expand_called numbers (called_for (kept_names scope) gate) depth angles qubits
expand-same numbers scope (Declared name) depth angles qubits h k =
    number-name name scope depth angles qubits k ∙ sym (h.on (number_in (symbol_of name scope)) depth angles qubits (number-there name scope k))
expand-same numbers scope _ depth angles qubits h k = refl

-- a call by name is a call by number
pub call-same : (numbers : Numbered) (scope : Scope) (gate : Callee) (depth : ℕ) (angles : Result (List Angle) Cause) (qubits : List ℕ)
    → Agrees numbers scope → is_no_gate (shape_of (lookup_in scope) gate) ≡ false
    → call (λ n d a q. expand_declared scope n d a q) gate depth angles qubits ≡ called_events numbers (called_for (kept_names scope) gate) depth angles qubits
call-same numbers scope gate depth angles qubits h k =
    ap (λ events. Called depth ∷ events)
    (after_angles-same angles _ _ (λ values. expand-same numbers scope gate depth values qubits h k))

-- kept calls, without where they lie in memory
abbrev pub kept_events : Numbered → ℕ → List Angle → List ℕ → List KeptCall → List Event
kept_events numbers depth angles qubits [] = []
kept_events numbers depth angles qubits (c ∷ calls) =
    called_events numbers c.called (depth + 1) (values_of c.angles angles) (picked qubits c.qubits) ++ kept_events numbers depth angles qubits calls

pub kept_events-calls : (numbers : Numbered) (depth : ℕ) (angles : List Angle) (qubits : List ℕ) (calls : List GateCall)
    → calls_events numbers depth angles qubits calls ≡ kept_events numbers depth angles qubits (map kept_call calls)
kept_events-calls numbers depth angles qubits [] = refl
kept_events-calls numbers depth angles qubits (c ∷ calls) =
    ap (λ events. call_events numbers depth angles qubits c ++ events) (kept_events-calls numbers depth angles qubits calls)

-- a body by name and by number
pub body-same : (numbers : Numbered) (scope : Scope) (form : GateForm) (depth : ℕ) (angles : List Angle) (qubits : List ℕ) (body : List BodySentence)
    → Agrees numbers scope → list_any (body_has_unknown (lookup_in scope) (places_among form.parameters) (places_among form.qubits)) body ≡ false
    → flat_map (body_call (λ n d a q. expand_declared scope n d a q) form depth angles qubits) body ≡ kept_events numbers depth angles qubits (kept_calls (kept_names scope) (places_among form.parameters) (places_among form.qubits) body)
body-same numbers scope form depth angles qubits [] h k = refl
body-same numbers scope form depth angles qubits (BodyBarrier names ∷ body) h k =
    body-same numbers scope form depth angles qubits body h (or-second _ _ k)
body-same numbers scope form depth angles qubits (BodyApplied a ∷ body) h k =
    let first = or-first _ _ k in
    let known = or-second _ _ (or-first _ _ (or-first _ _ first)) in
    let rest = body-same numbers scope form depth angles qubits body h (or-second _ _ k) in
    let values = numbered-angles form.parameters angles a.angles in
    let places = picked-places qubits form.qubits a.qubits in
    ap (λ events. body_call (λ n d a q. expand_declared scope n d a q) form depth angles qubits (BodyApplied a) ++ events) rest
    ∙ ap (λ events. events ++ kept_events numbers depth angles qubits (kept_calls (kept_names scope) (places_among form.parameters) (places_among form.qubits) body))
    (call-same numbers scope a.gate (depth + 1) (angles_of form.parameters angles a.angles) (map (λ name. slice_index_or qubits (place_of name form.qubits) 0) a.qubits) h known
    ∙ ap (λ v. called_events numbers (called_for (kept_names scope) a.gate) (depth + 1) v (map (λ name. slice_index_or qubits (place_of name form.qubits) 0) a.qubits)) values
    ∙ ap (λ p. called_events numbers (called_for (kept_names scope) a.gate) (depth + 1) (values_of (map (numbered (places_among form.parameters)) a.angles) angles) p) places)
