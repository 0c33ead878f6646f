-- What is wrong by what names are kept as is what is wrong by the scope.
use Rattle.std.proofs.Common.{◌≡◌, ℕ, zero, suc, ◌+◌, ◌<◌, ◌==◌, min, nat_lt, inl, inr, arith, Bool, false, ◌||◌, List, ◌++◌, if◌then◌else◌, None, Some, refl, sym, ap, ◌∙◌}
use Rattle.std.specs.List.{list_any}
use Rattle.std.specs.Str.{bytes_eq}
use Rattle.std.proofs.lemmas.Iterator.Adapters.{position_from-zero}
use Rattle.qasm_reader.specs.Syntax.{GateForm, DeclareGate, QubitRegister, BitRegister}
use Rattle.qasm_scope.specs.Angles.{places_among}
use Rattle.qasm_names.specs.Checks.{Symbols, gate_cause, is_redeclared_by, lookup_by, kept_by}
use Rattle.qasm_names.specs.Places.{place_in, ArePlaces}
use Rattle.qasm_scope.specs.declared.causes.Cause.{Cause}
use Rattle.qasm_scope.specs.declared.causes.Cause.TheVariants as cause
use Rattle.qasm_names.specs.Internal.Registers.{register_cause, too_many_cause}
use Rattle.qasm_names.specs.Kept.{found, symbol_bits, symbol_of, symbol_register, symbol_shape, symbol_taken, IsSound, IsSoundGate, kept_names}
use Rattle.qasm_scope.specs.Faults.{body_has_unknown, body_has_wrong_count, wrong_in, body_is_unsupported, body_has_same_qubit, form_has_unknown}
use Rattle.qasm_scope.specs.Scope.{Scope, bit_count, is_taken, numeral, qubit_count, lookup_in}
use Rattle.qasm_scope.specs.Applications.{has_twice}
use Rattle.qasm_names.specs.declared.places.Places.{Places}
use Rattle.qasm_names.proofs.Symbols.{symbol-says, symbol-taken}
use Rattle.qasm_names.proofs.Tests.{or-second, other_number}
use Rattle.std.proofs.lemmas.Bool.{cases_lt}
use Rattle.std.proofs.lemmas.Bool.Decides.{nat_tests}
use Rattle.zx_gates.specs.Circuit.{most_qubits}
use Rattle.zx_gates.specs.Elementary.{most_bits}

-- the names in the map are those of the scope
abbrev pub AreNames : Symbols → Scope → Type 0
AreNames symbols scope = (name : List ℕ) → found name symbols ≡ symbol_of name scope

-- what names stand for and are kept as, and the places of formal names, are the same functions
pub same-lookup : (symbols : Symbols) (scope : Scope) → AreNames symbols scope → lookup_by symbols ≡ lookup_in scope
same-lookup symbols scope h = λ i. record {
  gates = λ name. (ap symbol_shape (h name) ∙ (symbol-says name scope).0) i;
  qubits = λ name. (ap symbol_register (h name) ∙ (symbol-says name scope).1) i;
  bits = λ name. (ap symbol_bits (h name) ∙ (symbol-says name scope).2) i;
}

pub same-kept : (symbols : Symbols) (scope : Scope) → AreNames symbols scope → kept_by symbols ≡ kept_names scope
same-kept symbols scope h = λ i name. h name i

pub same-places : (places : Places) (names : List (List ℕ)) → ArePlaces places names → place_in places ≡ places_among names
same-places places names h = λ i name. (h name ∙ sym (position_from-zero (λ other. bytes_eq other name) names)) i

pub gate_cause-none : (a b c d e : Bool) → gate_cause a b c d e ≡ None → (a ≡ false) × (b ≡ false) × (c ≡ false) × (d ≡ false) × (e ≡ false)
gate_cause-none false false false false false h = (refl, refl, refl, refl, refl)
gate_cause-none _ _ _ _ _ h = absurd (cc)

-- the causes of a declaration
pub wrong_in-gate : (scope : Scope) (form : GateForm) → wrong_in scope (DeclareGate form)
    ≡ gate_cause (list_any body_is_unsupported form.body) (is_taken form.name scope || has_twice bytes_eq (form.parameters ++ form.qubits))
    (form_has_unknown (lookup_in scope) form) (list_any (body_has_wrong_count (lookup_in scope)) form.body) (list_any body_has_same_qubit form.body)
unfolding wrong_in
wrong_in-gate scope form = refl

pub wrong_gate-names : (symbols : Symbols) (scope : Scope) (parameters qubits : Places) (form : GateForm)
    → AreNames symbols scope → IsSound scope → ArePlaces parameters form.parameters → ArePlaces qubits form.qubits
    → gate_cause (list_any body_is_unsupported form.body) (is_redeclared_by symbols form)
    (list_any (body_has_unknown (lookup_by symbols) (place_in parameters) (place_in qubits)) form.body)
    (list_any (body_has_wrong_count (lookup_by symbols)) form.body) (list_any body_has_same_qubit form.body) ≡ wrong_in scope (DeclareGate form)
wrong_gate-names symbols scope parameters qubits form h sound k l =
    let taken : symbol_taken (found form.name symbols) ≡ is_taken form.name scope = ap symbol_taken (h form.name) ∙ symbol-taken form.name scope sound in
    let names = same-lookup symbols scope h in
    let first = same-places parameters form.parameters k in
    let second = same-places qubits form.qubits l in
    (λ i. gate_cause (list_any body_is_unsupported form.body) (taken i || has_twice bytes_eq (form.parameters ++ form.qubits))
    (list_any (body_has_unknown (names i) (first i) (second i)) form.body) (list_any (body_has_wrong_count (names i)) form.body) (list_any body_has_same_qubit form.body))
    ∙ sym (wrong_in-gate scope form)

pub sound-from : (scope : Scope) (form : GateForm) → wrong_in scope (DeclareGate form) ≡ None → IsSoundGate scope form
sound-from scope form h =
    let parts = gate_cause-none _ _ _ _ _ (sym (wrong_in-gate scope form) ∙ h) in
    record {
      all_known = parts.2;
      same_counts = parts.3;
      other_qubits = parts.4;
      other_names = or-second (is_taken form.name scope) (has_twice bytes_eq (form.parameters ++ form.qubits)) parts.1;
    }

-- a size cut off at a large number
zero-cut : (n most : ℕ) → 0 < most → (min n most == 0) ≡ (n == 0)
zero-cut zero most h = let e : min 0 most ≡ 0 = omega arith in ap (λ m. m == 0) e
zero-cut (suc n) most h = other_number (min (suc n) most) 0 (omega arith) ∙ sym (other_number (suc n) 0 (omega arith))

lt-cut : (limit q n most : ℕ) → limit < most → nat_lt limit (q + min n most) ≡ nat_lt limit (q + n)
lt-cut limit q n most h = elim (cases_lt most n) [
  | inl larger ↦ grind (arith, nat_tests)
  | inr fits ↦ (let e : min n most ≡ n = omega arith in ap (λ m. nat_lt limit (q + m)) e)
]

-- the causes of a register of any kind, by names and numbers cut off and by those of the scope
register-names : (symbols : Symbols) (scope : Scope) (name size : List ℕ) (limit most kept total count : ℕ) (many : Cause) → AreNames symbols scope → IsSound scope
    → limit < most → count ≡ min (numeral size) most → kept ≡ total
    → register_cause (symbol_taken (found name symbols)) (count == 0) (too_many_cause limit kept count many)
    ≡ register_cause (is_taken name scope) (numeral size == 0) (too_many_cause limit total (numeral size) many)
register-names symbols scope name size limit most kept total count many h sound large ec eq =
    let taken : symbol_taken (found name symbols) ≡ is_taken name scope = ap symbol_taken (h name) ∙ symbol-taken name scope sound in
    let empty : (count == 0) ≡ (numeral size == 0) = ap (λ n. n == 0) ec ∙ zero-cut (numeral size) most (omega (arith, large)) in
    let over : nat_lt limit (kept + count) ≡ nat_lt limit (total + numeral size) =
    ap (λ q. nat_lt limit (q + count)) eq ∙ ap (λ n. nat_lt limit (total + n)) ec ∙ lt-cut limit total (numeral size) most large in
    ap (λ b. register_cause b (count == 0) (too_many_cause limit kept count many)) taken
    ∙ ap (λ b. register_cause (is_taken name scope) b (too_many_cause limit kept count many)) empty
    ∙ ap (λ b. register_cause (is_taken name scope) (numeral size == 0) (if b then Some many else None)) over

pub wrong_in-qubits : (symbols : Symbols) (scope : Scope) (name size : List ℕ) (most qubits count : ℕ) → AreNames symbols scope → IsSound scope
    → most_qubits < most → count ≡ min (numeral size) most → qubits ≡ qubit_count scope
    → register_cause (symbol_taken (found name symbols)) (count == 0) (too_many_cause most_qubits qubits count cause.TooManyQubits) ≡ wrong_in scope (QubitRegister name size)
unfolding wrong_in
wrong_in-qubits symbols scope name size most qubits count =
    register-names symbols scope name size most_qubits most qubits (qubit_count scope) count cause.TooManyQubits

pub wrong_in-bits : (symbols : Symbols) (scope : Scope) (name size : List ℕ) (most bits count : ℕ) → AreNames symbols scope → IsSound scope
    → most_bits < most → count ≡ min (numeral size) most → bits ≡ bit_count scope
    → register_cause (symbol_taken (found name symbols)) (count == 0) (too_many_cause most_bits bits count cause.TooManyBits) ≡ wrong_in scope (BitRegister name size)
unfolding wrong_in
wrong_in-bits symbols scope name size most bits count =
    register-names symbols scope name size most_bits most bits (bit_count scope) count cause.TooManyBits
