-- The kept gates of a scope unroll to what its gates come to by number.
use Rattle.std.proofs.Common.{◌≡◌, ℕ, zero, suc, ◌+◌, ◌<◌, ◌≤◌, ◌==◌, Bool, true, false, if◌then◌else◌, List, [], ◌∷◌, ◌++◌, length, map, Option, None, Some, refl, sym, ap, ◌∙◌, append-nil, arith, ltb}
use Rattle.std.specs.List.{slice_get}
use Rattle.std.specs.Option.{option_map}
use Rattle.std.proofs.lemmas.Bool.Decides.{nat_tests}
use Rattle.std.proofs.lemmas.Option.{slice_get-map, slice_get_past}
use Rattle.qasm_angle.specs.declared.angle.Angle.{Angle}
use Rattle.qasm_reader.specs.Syntax.{GateForm}
use Rattle.qasm_names.specs.declared.gates.GateBody.{GateBody}
use Rattle.qasm_scope.specs.Calls.{expand_meaning, expand_declared}
use Rattle.qasm_names.specs.Kept.{KeptCall, kept_call, kept_body, gate_count, gates_in, kept_in, kept_gates, IsSound, IsSoundGate, IsSoundMeaning, form_calls}
use Rattle.qasm_unroll.specs.Internal.KeptCalls.{is_numbered, expand_number}
use Rattle.qasm_unroll.specs.Internal.KeptCalls.{Numbered, Unrolls, calls_of}
use Rattle.qasm_scope.specs.Scope.{Scope, Meaning, Gate}
use Rattle.qasm_names.proofs.Tests.{if-false}
use Rattle.qasm_unroll.proofs.Keeping.{Agrees, Agrees-before, Agrees-itself, kept_events, kept_events-calls, body-same}
use Rattle.qasm_names.proofs.Symbols.{kept-length}
use Rattle.qasm_unroll.proofs.PlacedLemmas.{number-renamed}

-- the calls of the gate of a number
abbrev pub kept_at : Option (List KeptCall) → List KeptCall
kept_at None = []
kept_at (Some calls) = calls

pub slice_get-before : {A : Type 0} (xs ys : List A) (n : ℕ) → n < length xs → slice_get (xs ++ ys) n ≡ slice_get xs n
slice_get-before [] ys n h = absurd (omega arith)
slice_get-before (x ∷ xs) ys zero h = refl
slice_get-before (x ∷ xs) ys (suc n) h = slice_get-before xs ys n (omega arith)

pub slice_get-end : {A : Type 0} (xs : List A) (y : A) → slice_get (xs ++ y ∷ []) (length xs) ≡ Some y
slice_get-end [] y = refl
slice_get-end (x ∷ xs) y = slice_get-end xs y

gate-at : (b : Bool) (numbers : Numbered) (form : GateForm) (scope : Scope) (n depth : ℕ) (angles : List Angle) (qubits : List ℕ) → (gate_count scope == n) ≡ b
    → IsSoundGate scope form → Agrees numbers scope → n < 1 + gate_count scope
    → (n < gate_count scope → expand_number scope n depth angles qubits ≡ kept_events numbers depth angles qubits (kept_at (slice_get (kept_gates scope) n)))
    → (if b then expand_meaning (λ n d a q. expand_declared scope n d a q) (Gate form) depth angles qubits else expand_number scope n depth angles qubits)
    ≡ kept_events numbers depth angles qubits (kept_at (slice_get (kept_gates scope ++ form_calls scope form ∷ []) n))
gate-at true numbers form scope n depth angles qubits e sound agrees h before =
    let same : n ≡ length (kept_gates scope) = let k = kept-length scope in grind (arith, nat_tests) in
    body-same numbers scope form depth angles qubits form.body agrees sound.all_known
    ∙ ap (λ o. kept_events numbers depth angles qubits (kept_at o))
    (sym (slice_get-end (kept_gates scope) (form_calls scope form)) ∙ ap (slice_get (kept_gates scope ++ form_calls scope form ∷ [])) (sym same))
gate-at false numbers form scope n depth angles qubits e sound agrees h before =
    let below : n < gate_count scope = grind (arith, nat_tests) in
    let k : n < length (kept_gates scope) = let l = kept-length scope in omega arith in
    before below ∙ ap (λ o. kept_events numbers depth angles qubits (kept_at o)) (sym (slice_get-before (kept_gates scope) (form_calls scope form ∷ []) n k))

meaning-at : (m : Meaning) (replaceable : Bool) (numbers : Numbered) (scope : Scope) (n depth : ℕ) (angles : List Angle) (qubits : List ℕ)
    → IsSoundMeaning scope m replaceable → Agrees numbers scope → n < gates_in m + gate_count scope
    → (n < gate_count scope → expand_number scope n depth angles qubits ≡ kept_events numbers depth angles qubits (kept_at (slice_get (kept_gates scope) n)))
    → (if is_numbered n (gate_count scope) m then expand_meaning (λ n d a q. expand_declared scope n d a q) m depth angles qubits else expand_number scope n depth angles qubits)
    ≡ kept_events numbers depth angles qubits (kept_at (slice_get (kept_gates scope ++ kept_in scope m) n))
meaning-at (Gate form) replaceable numbers scope n depth angles qubits sound agrees h before =
    gate-at (gate_count scope == n) numbers form scope n depth angles qubits refl sound agrees h before
meaning-at _ replaceable numbers scope n depth angles qubits sound agrees h before =
    before (omega arith) ∙ ap (λ gs. kept_events numbers depth angles qubits (kept_at (slice_get gs n))) (sym (append-nil (kept_gates scope)))

pub number-kept : (numbers : Numbered) (scope : Scope) (n depth : ℕ) (angles : List Angle) (qubits : List ℕ) → IsSound scope → Agrees numbers scope → n < gate_count scope
    → expand_number scope n depth angles qubits ≡ kept_events numbers depth angles qubits (kept_at (slice_get (kept_gates scope) n))
number-kept numbers [] n depth angles qubits sound agrees h = absurd (omega arith)
number-kept numbers (d ∷ scope) n depth angles qubits sound agrees h =
    meaning-at d.meaning d.replaceable numbers scope n depth angles qubits sound.0 (Agrees-before numbers d scope agrees) h
    (number-kept numbers scope n depth angles qubits sound.2 (Agrees-before numbers d scope agrees))

past-numbered : (n count : ℕ) (m : Meaning) → gates_in m + count ≤ n → is_numbered n count m ≡ false
past-numbered n count (Gate form) h = grind (arith, nat_tests)
past-numbered n count _ h = refl

-- a number that isn't there means nothing
pub number-past : (scope : Scope) (n depth : ℕ) (angles : List Angle) (qubits : List ℕ) → gate_count scope ≤ n → expand_number scope n depth angles qubits ≡ []
number-past [] n depth angles qubits h = refl
number-past (d ∷ scope) n depth angles qubits h =
    if-false (is_numbered n (gate_count scope) d.meaning) _ _ (past-numbered n (gate_count scope) d.meaning h) ∙ number-past scope n depth angles qubits (omega arith)

kept-of : (o : Option GateBody) → map kept_call (calls_of o) ≡ kept_at (option_map kept_body o)
kept-of None = refl
kept-of (Some gate) = refl

kept-or-past : (b : Bool) (scope : Scope) (n depth : ℕ) (angles : List Angle) (qubits : List ℕ) → ltb n (gate_count scope) ≡ b → IsSound scope
    → expand_number scope n depth angles qubits ≡ kept_events (expand_number scope) depth angles qubits (kept_at (slice_get (kept_gates scope) n))
kept-or-past true scope n depth angles qubits e sound = number-kept (expand_number scope) scope n depth angles qubits sound (Agrees-itself scope) (grind (arith, nat_tests))
kept-or-past false scope n depth angles qubits e sound =
    let past : gate_count scope ≤ n = grind (arith, nat_tests) in
    let l : length (kept_gates scope) ≤ n = let k = kept-length scope in omega arith in
    number-past scope n depth angles qubits past
    ∙ ap (λ o. kept_events (expand_number scope) depth angles qubits (kept_at o)) (sym (slice_get_past (kept_gates scope) n l))

-- the gates that are kept for a scope unroll to what its gates come to
pub kept-unrolls : (gates : List GateBody) (scope : Scope) → IsSound scope → map kept_body gates ≡ kept_gates scope → Unrolls gates (expand_number scope)
kept-unrolls gates scope sound e = record {
  each = λ n depth angles qubits.
      kept-or-past (ltb n (gate_count scope)) scope n depth angles qubits refl sound
      ∙ ap (λ gs. kept_events (expand_number scope) depth angles qubits (kept_at (slice_get gs n))) (sym e)
      ∙ ap (λ o. kept_events (expand_number scope) depth angles qubits (kept_at o)) (slice_get-map kept_body gates n)
      ∙ ap (kept_events (expand_number scope) depth angles qubits) (sym (kept-of (slice_get gates n)))
      ∙ sym (kept_events-calls (expand_number scope) depth angles qubits (calls_of (slice_get gates n)));
  by_places = number-renamed scope;
}
