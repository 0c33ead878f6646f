-- The circuit that a program without a fault means is a circuit of elementary gates on its qubits.
use Rattle.std.proofs.Common.{◌≡◌, ℕ, zero, suc, ◌+◌, ◌<◌, ◌≤◌, ◌==◌, Bool, true, false, ◌||◌, not, if◌then◌else◌, List, [], ◌∷◌, ◌++◌, length, map, Option, None, Some, refl, sym, ap, subst, ◌∙◌, arith}
use Rattle.std.specs.List.{All, list_any, range_with_len}
use Rattle.std.proofs.Math.Nat.{zero-add}
use Rattle.std.proofs.lemmas.Bool.Decides.{nat_tests}
use Rattle.std.proofs.lemmas.List.{length-map}
use Rattle.std.proofs.lemmas.List.Elements.{All-nil, All-cons}
use Rattle.std.specs.Option.{option_or}
use Rattle.zx_gates.specs.declared.elementary.Measure.{Measure}
use Rattle.zx_gates.specs.Circuit.{most_qubits}
use Rattle.zx_gates.specs.Elementary.{IsElementaryGateOn, IsMeasureOn, most_bits}
use Rattle.qasm_reader.specs.Syntax.{Operand, Apply, Applied, Measured, GateForm, Sentence, Version, Include, QubitRegister, BitRegister, DeclareGate, Act, Placed}
use Rattle.qasm_scope.specs.declared.causes.Cause.{Cause}
use Rattle.qasm_scope.specs.Angles.{angles_of, places_among}
use Rattle.qasm_scope.specs.Applications.{Range, Single, Register, range_in, range_of, ranges_of, register_of, register_sizes, element_at, instances, has_twice, application_events}
use Rattle.qasm_scope.specs.Calls.{call, call_count, expand_declared}
use Rattle.qasm_scope.specs.Faults.{wrong_in, first_cause, statement_tests, has_unknown, has_other_shape, has_other_size, is_no_gate, is_no_register, is_past, shape_of, has_other_name}
use Rattle.qasm_scope.specs.HeaderGates.{first_gates, further_gates}
use Rattle.qasm_scope.specs.Measurements.{are_unlike, bit_range_of, bit_register_of, count_in, measured_by}
use Rattle.qasm_names.specs.Kept.{IsSound}
use Rattle.qasm_scope.specs.Meaning.{after_statement, events_of, fault_after, first_fault, gates_after, is_version, measures_after, scope_after, with_first, with_further, with_header, wrong_with}
use Rattle.qasm_scope.specs.Scope.{Scope, Gate, bit_count, declared, is_declared, qubit_count, lookup_in}
use Rattle.qasm_scope.proofs.Placing.{placed_or}
use Rattle.qasm_unroll.proofs.CallLemmas.{Each, Each-append, ActsOn, ActsOn-flat_map, AreArguments, Takes, takes-from, call-on}
use Rattle.qasm_unroll.specs.Internal.Spans.{instance_count}
use Rattle.qasm_unroll.proofs.SpanLemmas.{LiesBelow, bits-below, few-sound, lies-more, register-below}
use Rattle.qasm_names.proofs.CheckLemmas.{sound-from}
use Rattle.qasm_names.proofs.Including.{with_header-sound}
use Rattle.qasm_names.proofs.Tests.{or-first, or-second, same_number}

-- ---- scopes of statements that nothing is wrong with

-- no test finds a cause
abbrev AllFalse : List (Bool × Cause) → Type 0
AllFalse [] = Unit {0}
AllFalse (test ∷ tests) = (test.0 ≡ false) × AllFalse tests

no_cause-at : (b : Bool) (first : Cause) (rest : Option Cause) → (if b then Some first else rest) ≡ None → (b ≡ false) × (rest ≡ None)
no_cause-at true first rest h = absurd (cc)
no_cause-at false first rest h = (refl, h)

pub no_cause : (tests : List (Bool × Cause)) → first_cause tests ≡ None → AllFalse tests
no_cause [] h = tt
no_cause (test ∷ tests) h = let both = no_cause-at test.0 test.1 (first_cause tests) h in (both.0, no_cause tests both.1)

-- no test of a statement finds a cause where nothing is wrong with it
pub passes : (scope : Scope) (sentence : Sentence) → wrong_in scope sentence ≡ None → AllFalse (statement_tests scope sentence)
unfolding wrong_in
passes scope sentence h = no_cause (statement_tests scope sentence) h

-- the scope after a statement is sound
sound-after : (scope : Scope) (sentence : Sentence) → IsSound scope → wrong_in scope sentence ≡ None → IsSound (after_statement scope sentence)
sound-after scope (Include text) sound h = with_header-sound scope sound (passes scope (Include text) h).1.0
sound-after scope (QubitRegister name size) sound h =
    let few = (passes scope (QubitRegister name size) h).1.1.0 in
    ((record { after_others = refl; few = grind (arith, nat_tests) }, refl), tt, sound)
sound-after scope (BitRegister name size) sound h =
    let few = (passes scope (BitRegister name size) h).1.1.0 in
    ((record { after_others = refl; few = grind (arith, nat_tests) }, refl), tt, sound)
sound-after scope (DeclareGate form) sound h = (sound-from scope form h, tt, sound)
sound-after scope _ sound h = sound

-- two scopes have as many qubits and as many bits
abbrev SameCounts : Scope → Scope → Type 0
SameCounts after scope = (qubit_count after ≡ qubit_count scope) × (bit_count after ≡ bit_count scope)

-- a statement takes no qubit and no bit away
with_first-count : (forms : List GateForm) (scope : Scope) → SameCounts (with_first forms scope) scope
with_first-count [] scope = (refl, refl)
with_first-count (form ∷ forms) scope =
    let same = with_first-count forms (declared form.name (Gate form) ∷ scope) in (same.0 ∙ zero-add _, same.1 ∙ zero-add _)

further-at : (b : Bool) (form : GateForm) (scope : Scope)
    → SameCounts (if b then scope else record { name = form.name; meaning = Gate form; replaceable = true } ∷ scope) scope
further-at true form scope = (refl, refl)
further-at false form scope = (zero-add _, zero-add _)

with_further-count : (forms : List GateForm) (scope : Scope) → SameCounts (with_further forms scope) scope
with_further-count [] scope = (refl, refl)
with_further-count (form ∷ forms) scope =
    let same = with_further-count forms (if is_declared form.name scope then scope else record { name = form.name; meaning = Gate form; replaceable = true } ∷ scope) in
    let first = further-at (is_declared form.name scope) form scope in
    (same.0 ∙ first.0, same.1 ∙ first.1)

with_header-count : (scope : Scope) → SameCounts (with_header scope) scope
unfolding with_header
with_header-count scope =
    let same = with_further-count further_gates (with_first first_gates scope) in
    let first = with_first-count first_gates scope in
    (same.0 ∙ first.0, same.1 ∙ first.1)

abbrev HasNoMore : Scope → Scope → Type 0
HasNoMore scope after = (qubit_count scope ≤ qubit_count after) × (bit_count scope ≤ bit_count after)

count-after : (scope : Scope) (sentence : Sentence) → HasNoMore scope (after_statement scope sentence)
count-after scope (Include text) = let same = with_header-count scope in (omega (arith, same.0), omega (arith, same.1))
count-after scope _ = (omega arith, omega arith)

-- ---- the qubits of an application

-- an argument stands for qubits below the number; a register has this size
abbrev RangeOn : ℕ → ℕ → Range → Type 0
RangeOn limit size (Single qubit) = qubit < limit
RangeOn limit size (Register first n) = (first + n ≤ limit) × (n ≡ size)

abbrev size_differs : ℕ → Range → Bool
size_differs size (Single qubit) = false
size_differs size (Register first n) = not (n == size)

range-on : (limit size : ℕ) (register : Option (ℕ × ℕ)) (index : Option (List ℕ)) → LiesBelow limit register → is_no_register register ≡ false → is_past register index ≡ false
    → size_differs size (range_in register index) ≡ false → RangeOn limit size (range_in register index)
range-on limit size None index lies h k same = absurd (cc)
range-on limit size (Some register) None lies h k same = (lies, grind (arith, nat_tests))
range-on limit size (Some register) (Some text) lies h k same = grind (arith, nat_tests)

sizes-at : (size : ℕ) (t : Range) (ranges : List Range) → list_any (λ other. not (other == size)) (register_sizes (t ∷ ranges)) ≡ false
    → (size_differs size t ≡ false) × (list_any (λ other. not (other == size)) (register_sizes ranges) ≡ false)
sizes-at size (Single qubit) ranges h = (refl, h)
sizes-at size (Register first n) ranges h = (or-first _ _ h, or-second (not (n == size)) _ h)

ranges-on : (limit size : ℕ) (scope : Scope) (operands : List Operand) → IsSound scope → qubit_count scope ≤ limit
    → list_any (λ operand. is_no_register (register_of (lookup_in scope) operand)) operands ≡ false
    → list_any (λ operand. is_past (register_of (lookup_in scope) operand) operand.index) operands ≡ false
    → list_any (λ other. not (other == size)) (register_sizes (ranges_of (lookup_in scope) operands)) ≡ false → Each (RangeOn limit size) (ranges_of (lookup_in scope) operands)
ranges-on limit size scope [] sound few registers past same = tt
ranges-on limit size scope (o ∷ operands) sound few registers past same =
    let both = sizes-at size (range_of (lookup_in scope) o) (ranges_of (lookup_in scope) operands) same in
    let lies = lies-more (register_of (lookup_in scope) o) (qubit_count scope) limit few (register-below o.register scope sound) in (
      range-on limit size (register_of (lookup_in scope) o) o.index lies (or-first _ _ registers) (or-first _ _ past) both.0,
      ranges-on limit size scope operands sound few (or-second (is_no_register (register_of (lookup_in scope) o)) _ registers)
          (or-second (is_past (register_of (lookup_in scope) o) o.index) _ past) both.1,
    )

-- all sizes are the first one
same-sizes : (sizes : List ℕ) → has_other_size sizes ≡ false → list_any (λ other. not (other == instance_count sizes)) sizes ≡ false
same-sizes [] h = refl
same-sizes (size ∷ sizes) h = ap (λ b. not b || list_any (λ other. not (other == size)) sizes) (same_number size) ∙ h

qubit-below : (limit size index : ℕ) (t : Range) → index < size → RangeOn limit size t → element_at index t < limit
qubit-below limit size index (Single qubit) h on = on
qubit-below limit size index (Register first n) h on = let within = on.0 in let same = on.1 in omega arith

qubits-below : (limit size index : ℕ) (ranges : List Range) → index < size → Each (RangeOn limit size) ranges → Each (λ q. q < limit) (map (element_at index) ranges)
qubits-below limit size index [] h on = tt
qubits-below limit size index (t ∷ ranges) h on = (qubit-below limit size index t h on.0, qubits-below limit size index ranges h on.1)

-- the instances of an application from an index on
instances-on : (limit size from count : ℕ) (ranges : List Range) → from + count ≤ size → Each (RangeOn limit size) ranges
    → list_any (has_twice ◌==◌) (map (λ index. map (element_at index) ranges) (range_with_len from count)) ≡ false
    → Each (λ qubits. AreArguments limit qubits × (length qubits ≡ length ranges)) (map (λ index. map (element_at index) ranges) (range_with_len from count))
instances-on limit size from zero ranges h on twice = tt
instances-on limit size from (suc count) ranges h on twice = (
  (
    record { below = qubits-below limit size from ranges (omega arith) on; distinct = or-first _ _ twice },
    length-map ranges (element_at from),
  ),
  instances-on limit size (from + 1) count ranges (omega arith) on (or-second (has_twice ◌==◌ (map (element_at from) ranges)) _ twice),
)

calls-on : (limit : ℕ) (scope : Scope) (a : Apply) (many : List (List ℕ)) → IsSound scope → is_no_gate (shape_of (lookup_in scope) a.gate) ≡ false → has_other_shape (shape_of (lookup_in scope) a.gate) (length a.angles) (length a.qubits) ≡ false
    → Each (λ qubits. AreArguments limit qubits × (length qubits ≡ length (ranges_of (lookup_in scope) a.qubits))) many
    → Each (λ qubits. ActsOn limit (call (expand_declared scope) a.gate 1 (angles_of [] [] a.angles) qubits)) many
calls-on limit scope a [] sound gate counts h = tt
calls-on limit scope a (qubits ∷ many) sound gate counts h =
    let same : length qubits ≡ length a.qubits = h.0.1 ∙ length-map a.qubits (range_of (lookup_in scope)) in
    let takes = takes-from (shape_of (lookup_in scope) a.gate) (length a.angles) (length a.qubits) gate counts in (
      call-on limit scope a.gate 1 (angles_of [] [] a.angles) qubits sound h.0.0 (subst (Takes (shape_of (lookup_in scope) a.gate)) (sym same) takes),
      calls-on limit scope a many sound gate counts h.1,
    )

application-on : (limit : ℕ) (scope : Scope) (a : Apply) → IsSound scope → qubit_count scope ≤ limit → wrong_in scope (Act (Applied a)) ≡ None → ActsOn limit (application_events scope a)
application-on limit scope a sound few h =
    let p = (passes scope (Act (Applied a)) h).1 in
    let known : has_unknown (lookup_in scope) a ≡ false = p.0 in
    let sizes : has_other_size (register_sizes (ranges_of (lookup_in scope) a.qubits)) ≡ false = p.1.1.1.0 in
    let ranges = ranges_of (lookup_in scope) a.qubits in
    let count = instance_count (register_sizes ranges) in
    let gate = or-first (is_no_gate (shape_of (lookup_in scope) a.gate)) _ (or-first _ _ known) in
    let registers = or-second (is_no_gate (shape_of (lookup_in scope) a.gate) || list_any (has_other_name (places_among [])) a.angles) _ known in
    let on = ranges-on limit count scope a.qubits sound few registers p.1.1.0 (same-sizes (register_sizes ranges) sizes) in
    ActsOn-flat_map limit (call (expand_declared scope) a.gate 1 (angles_of [] [] a.angles)) (instances ranges)
    (calls-on limit scope a (instances ranges) sound gate p.1.0 (instances-on limit count 0 count ranges (omega arith) on p.1.1.1.1.0))

statement-on : (limit : ℕ) (scope : Scope) (sentence : Sentence) → IsSound scope → qubit_count scope ≤ limit → wrong_in scope sentence ≡ None → ActsOn limit (events_of scope sentence)
statement-on limit scope (Act (Applied a)) sound few h = application-on limit scope a sound few h
statement-on limit scope _ sound few h = tt

-- ---- the qubits and bits of a measurement
same-size : (t : Range) → size_differs (count_in t) t ≡ false
same-size (Single place) = refl
same-size (Register first size) = ap not (same_number size)

like-size : (from to : Range) → are_unlike from to ≡ false → size_differs (count_in from) to ≡ false
like-size (Single qubit) (Single bit) h = refl
like-size (Register first size) (Register other bits) h = h
like-size _ _ h = absurd (cc)

measures-from : (limit bits size start count : ℕ) (from to : Range) → start + count ≤ size → RangeOn limit size from → RangeOn bits size to
    → Each (IsMeasureOn limit bits) (map (λ index. record { qubit = element_at index from; bit = element_at index to }) (range_with_len start count))
measures-from limit bits size start zero from to h on on_bits = tt
measures-from limit bits size start (suc count) from to h on on_bits = (
  record { a_qubit = qubit-below limit size start from (omega arith) on; a_bit = qubit-below bits size start to (omega arith) on_bits },
  measures-from limit bits size (start + 1) count from to (omega arith) on on_bits,
)

measure-on : (limit bits : ℕ) (scope : Scope) (from to : Operand) → IsSound scope → qubit_count scope ≤ limit → bit_count scope ≤ bits → wrong_in scope (Act (Measured from to)) ≡ None
    → Each (IsMeasureOn limit bits) (measured_by scope (Act (Measured from to)))
measure-on limit bits scope from to sound few few_bits h =
    let p = passes scope (Act (Measured from to)) h in
    let like : are_unlike (range_of (lookup_in scope) from) (bit_range_of (lookup_in scope) to) ≡ false = p.1.1.0 in
    let size = count_in (range_of (lookup_in scope) from) in
    let lies = lies-more (register_of (lookup_in scope) from) (qubit_count scope) limit few (register-below from.register scope sound) in
    let bits_lie = lies-more (bit_register_of (lookup_in scope) to) (bit_count scope) bits few_bits (bits-below to.register scope sound) in
    measures-from limit bits size 0 size (range_of (lookup_in scope) from) (bit_range_of (lookup_in scope) to) (omega arith)
    (range-on limit size (register_of (lookup_in scope) from) from.index lies (or-first _ _ p.0) (or-first _ _ p.1.0) (same-size (range_of (lookup_in scope) from)))
    (range-on bits size (bit_register_of (lookup_in scope) to) to.index bits_lie (or-second (is_no_register (register_of (lookup_in scope) from)) _ p.0) (or-second (is_past (register_of (lookup_in scope) from) from.index) _ p.1.0)
    (like-size (range_of (lookup_in scope) from) (bit_range_of (lookup_in scope) to) like))

measures-on : (limit bits : ℕ) (scope : Scope) (sentence : Sentence) → IsSound scope → qubit_count scope ≤ limit → bit_count scope ≤ bits → wrong_in scope sentence ≡ None
    → Each (IsMeasureOn limit bits) (measured_by scope sentence)
measures-on limit bits scope (Act (Measured from to)) sound few few_bits h = measure-on limit bits scope from to sound few few_bits h
measures-on limit bits scope _ sound few few_bits h = tt

-- ---- programs

pub none-first : (first second : Option Cause) → option_or first second ≡ None → first ≡ None
none-first None second h = refl
none-first (Some cause) second h = absurd (cc)

pub none-second : (first second : Option Cause) → option_or first second ≡ None → second ≡ None
none-second None second h = h
none-second (Some cause) second h = absurd (cc)

pub none-both : (cause : Option Cause) (place : ℕ) (rest : Option (Cause × ℕ)) → placed_or cause place rest ≡ None → (cause ≡ None) × (rest ≡ None)
none-both None place rest h = (refl, h)
none-both (Some cause) place rest h = absurd (cc)

-- what holds after statements without a fault
record AreElementary (scope : Scope) (statements : List Placed) : Type 0 where
  pub sound : IsSound (scope_after scope statements)
  pub more : HasNoMore scope (scope_after scope statements)
  pub on : (limit : ℕ) → qubit_count (scope_after scope statements) ≤ limit → Each (IsElementaryGateOn limit) (gates_after scope statements)
  pub measures : (limit bits : ℕ) → qubit_count (scope_after scope statements) ≤ limit → bit_count (scope_after scope statements) ≤ bits
      → Each (IsMeasureOn limit bits) (measures_after scope statements)

-- a statement before
elementary-next : (scope : Scope) (s : Placed) (statements : List Placed) → ((limit : ℕ) → qubit_count scope ≤ limit → ActsOn limit (events_of scope s.sentence))
    → ((limit bits : ℕ) → qubit_count scope ≤ limit → bit_count scope ≤ bits → Each (IsMeasureOn limit bits) (measured_by scope s.sentence))
    → AreElementary (after_statement scope s.sentence) statements → AreElementary scope (s ∷ statements)
elementary-next scope s statements on measures rest =
    let qubits_more = (count-after scope s.sentence).0 in
    let bits_more = (count-after scope s.sentence).1 in
    let rest_qubits = rest.more.0 in
    let rest_bits = rest.more.1 in
    record {
      sound = rest.sound;
      more = (omega arith, omega arith);
      on = λ limit few. Each-append (IsElementaryGateOn limit) _ _ (on limit (omega arith)) (rest.on limit few);
      measures = λ limit bits few few_bits. Each-append (IsMeasureOn limit bits) _ _ (measures limit bits (omega arith) (omega arith)) (rest.measures limit bits few few_bits);
    }

statements-elementary : (most : ℕ) (scope : Scope) (measured : List Measure) (calls : ℕ) (statements : List Placed) → IsSound scope → fault_after most scope measured calls statements ≡ None → AreElementary scope statements
statements-elementary most scope measured calls [] sound h = record { sound = sound; more = (omega arith, omega arith); on = λ limit few. tt; measures = λ limit bits few few_bits. tt }
statements-elementary most scope measured calls (s ∷ statements) sound h =
    let both = none-both (wrong_with most scope measured calls s.sentence) s.place _ h in
    let right : wrong_in scope s.sentence ≡ None = none-first _ _ both.0 in
    elementary-next scope s statements (λ limit few. statement-on limit scope s.sentence sound few right)
    (λ limit bits few few_bits. measures-on limit bits scope s.sentence sound few few_bits right)
    (statements-elementary most (after_statement scope s.sentence) (measured ++ measured_by scope s.sentence) (calls + call_count (events_of scope s.sentence)) statements (sound-after scope s.sentence sound right) both.1)

-- a version declares nothing and applies nothing
pub version-after : (scope : Scope) (sentence : Sentence) → is_version sentence ≡ true → scope ≡ after_statement scope sentence
version-after scope (Version real) h = refl
version-after scope sentence h = absurd (cc)

version-on : (limit : ℕ) (scope : Scope) (sentence : Sentence) → is_version sentence ≡ true → ActsOn limit (events_of scope sentence)
version-on limit scope (Version real) h = tt
version-on limit scope sentence h = absurd (cc)

pub version-measures : (scope : Scope) (sentence : Sentence) → is_version sentence ≡ true → measured_by scope sentence ≡ []
version-measures scope (Version real) h = refl
version-measures scope sentence h = absurd (cc)

pub version-from : {A : Type 0} (b : Bool) (o : Option A) (fault : A) → (if b then o else Some fault) ≡ None → (b ≡ true) × (o ≡ None)
version-from true o fault h = (refl, h)
version-from false o fault h = absurd (cc)

elementary : (most : ℕ) (program : List Placed) → first_fault most program ≡ None → AreElementary [] program
unfolding first_fault
elementary most [] h = absurd (cc)
elementary most (s ∷ statements) h =
    let both = version-from (is_version s.sentence) (fault_after most [] [] 0 statements) _ h in
    elementary-next [] s statements (λ limit few. version-on limit [] s.sentence both.0)
    (λ limit bits few few_bits. subst (Each (IsMeasureOn limit bits)) (sym (version-measures [] s.sentence both.0)) tt)
    (subst (λ scope. AreElementary scope statements) (version-after [] s.sentence both.0) (statements-elementary most [] [] 0 statements tt both.1))

All-from : {A : Type 0} (P : A → Type 0) (xs : List A) → Each P xs → All P xs
All-from P [] h = All-nil P
All-from P (x ∷ xs) h = All-cons P x xs h.0 (All-from P xs h.1)

-- The circuit of a program without a fault has few qubits and bits, and its gates and measurements act on them.
pub faultless-few : (most : ℕ) (program : List Placed) → first_fault most program ≡ None
    → (qubit_count (scope_after [] program) ≤ most_qubits) × (bit_count (scope_after [] program) ≤ most_bits)
faultless-few most program h = few-sound (scope_after [] program) (elementary most program h).sound

pub faultless-on : (most : ℕ) (program : List Placed) → first_fault most program ≡ None → All (IsElementaryGateOn (qubit_count (scope_after [] program))) (gates_after [] program)
faultless-on most program h =
    All-from (IsElementaryGateOn (qubit_count (scope_after [] program))) (gates_after [] program)
    ((elementary most program h).on (qubit_count (scope_after [] program)) (omega arith))

pub faultless-within : (most : ℕ) (program : List Placed) → first_fault most program ≡ None
    → All (IsMeasureOn (qubit_count (scope_after [] program)) (bit_count (scope_after [] program))) (measures_after [] program)
faultless-within most program h =
    All-from (IsMeasureOn (qubit_count (scope_after [] program)) (bit_count (scope_after [] program))) (measures_after [] program)
    ((elementary most program h).measures (qubit_count (scope_after [] program)) (bit_count (scope_after [] program)) (omega arith) (omega arith))
