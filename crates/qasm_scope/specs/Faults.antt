-- What is wrong with a statement, in the scope before it. Each test is about one cause, and takes what names stand for.
use Rattle.std.specs.Prelude.{ℕ, ◌+◌, ◌==◌, Bool, true, false, ◌||◌, not, if◌then◌else◌, List, [], ◌∷◌, ◌++◌, length}
use Rattle.std.specs.Prelude.{Option, None, Some, is_some, nat_le, nat_lt, codes}
use Rattle.std.specs.List.{list_any}
use Rattle.std.specs.Str.{bytes_eq}
use Rattle.zx_gates.specs.Circuit.{most_qubits}
use Rattle.zx_gates.specs.Elementary.{most_bits}
use Rattle.zx_gates.specs.declared.elementary.Measure.{Measure}
use Rattle.qasm_reader.specs.Syntax.{Formula, Name, Negate, Binary, Call, Operand, Callee, Declared, U, Cx, Apply}
use Rattle.qasm_reader.specs.Syntax.{Applied, Measured, BodySentence, BodyApplied, BodyBarrier, GateForm}
use Rattle.qasm_reader.specs.Syntax.{Sentence, Version, Include, QubitRegister, BitRegister, DeclareGate, Barrier, Act}
use Rattle.qasm_scope.specs.declared.causes.Cause.{Cause}
use Rattle.qasm_scope.specs.declared.causes.Cause.TheVariants as cause
use Rattle.qasm_scope.specs.Angles.{FormalPlaces, is_unsupported, places_among}
use Rattle.qasm_scope.specs.Applications.{instances, range_of, ranges_of, register_of, register_sizes, has_twice}
use Rattle.qasm_scope.specs.HeaderGates.{first_gates}
use Rattle.qasm_scope.specs.Measurements.{are_unlike, bit_range_of, bit_register_of, bits_of, holds_any, qubits_of}
use Rattle.qasm_scope.specs.Scope.{Lookup, Scope, is_taken, is_declared, lookup_in, numeral, qubit_count, bit_count}

-- an expression in a body or an application holds `^` or a function
abbrev pub body_is_unsupported : BodySentence → Bool
body_is_unsupported (BodyApplied a) = list_any is_unsupported a.angles
body_is_unsupported (BodyBarrier names) = false

-- how many angles and qubits a gate has, if there is one
abbrev pub shape_of : Lookup → Callee → Option (ℕ × ℕ)
shape_of names (Declared name) = names.gates name
shape_of names U = Some (3, 1)
shape_of names Cx = Some (0, 2)

-- there is no such gate
abbrev pub is_no_gate : Option (ℕ × ℕ) → Bool
is_no_gate shape = not (is_some shape)

-- the name is none of the formal names
abbrev pub is_other : FormalPlaces → List ℕ → Bool
is_other places name = not (is_some (places name))

-- a name in an expression isn't among the parameters
abbrev pub has_other_name : FormalPlaces → Formula → Bool
has_other_name places (Name name) = is_other places name
has_other_name places (Negate f) = has_other_name places f
has_other_name places (Binary operator f g) = has_other_name places f || has_other_name places g
has_other_name places (Call function f) = has_other_name places f
has_other_name places f = false

-- there is no such register
abbrev pub is_no_register : Option (ℕ × ℕ) → Bool
is_no_register register = not (is_some register)

-- in a body, formal names hide others
abbrev pub is_hidden : FormalPlaces → FormalPlaces → Callee → Bool
is_hidden parameters qubits (Declared name) = is_some (parameters name) || is_some (qubits name)
is_hidden parameters qubits gate = false

-- a statement of a body names a gate, an angle or a qubit that isn't known there
abbrev pub body_has_unknown : Lookup → FormalPlaces → FormalPlaces → BodySentence → Bool
body_has_unknown names parameters qubits (BodyApplied a) =
    is_hidden parameters qubits a.gate || is_no_gate (shape_of names a.gate)
    || list_any (has_other_name parameters) a.angles || list_any (is_other qubits) a.qubits
body_has_unknown names parameters qubits (BodyBarrier others) = list_any (is_other qubits) others

-- so in a gate's own body
abbrev pub form_has_unknown : Lookup → GateForm → Bool
form_has_unknown names form =
    list_any (body_has_unknown names (places_among form.parameters) (places_among form.qubits)) form.body

-- no qubits are declared by the name of the argument
abbrev pub has_no_register : Lookup → Operand → Bool
has_no_register names operand = is_no_register (register_of names operand)

-- a name in an application isn't known, or isn't what is needed there
abbrev pub has_unknown : Lookup → Apply → Bool
has_unknown names a =
    is_no_gate (shape_of names a.gate) || list_any (has_other_name (places_among [])) a.angles
    || list_any (has_no_register names) a.qubits

-- angles or qubits differ in number from the gate's declaration
abbrev pub has_other_shape : Option (ℕ × ℕ) → ℕ → ℕ → Bool
has_other_shape None angles qubits = false
has_other_shape (Some shape) angles qubits = not (angles == shape.0) || not (qubits == shape.1)

-- it gives a gate another number of angles or qubits than the gate's declaration has
abbrev pub body_has_wrong_count : Lookup → BodySentence → Bool
body_has_wrong_count names (BodyApplied a) = has_other_shape (shape_of names a.gate) (length a.angles) (length a.qubits)
body_has_wrong_count names (BodyBarrier others) = false

-- an index isn't below its register's size
abbrev pub is_past : Option (ℕ × ℕ) → Option (List ℕ) → Bool
is_past (Some register) (Some index) = nat_le register.1 (numeral index)
is_past (Some register) None = false
is_past None index = false

-- the argument's index isn't below its register's size
abbrev pub has_past_index : Lookup → Operand → Bool
has_past_index names operand = is_past (register_of names operand) operand.index

-- two sizes differ
abbrev pub has_other_size : List ℕ → Bool
has_other_size [] = false
has_other_size (size ∷ sizes) = list_any (λ other. not (other == size)) sizes

-- a statement of a body gives a gate one qubit twice
abbrev pub body_has_same_qubit : BodySentence → Bool
body_has_same_qubit (BodyApplied a) = has_twice bytes_eq a.qubits
body_has_same_qubit (BodyBarrier names) = false

-- the first cause, in this order
abbrev pub first_cause : List (Bool × Cause) → Option Cause
first_cause [] = None
first_cause (test ∷ tests) = if test.0 then Some test.1 else first_cause tests

abbrev pub has_wrong_count : Lookup → Apply → Bool
has_wrong_count names a = has_other_shape (shape_of names a.gate) (length a.angles) (length a.qubits)

-- the tests of an application, each with the cause that it finds
abbrev pub application_tests : Lookup → Apply → List (Bool × Cause)
application_tests names a =
    (list_any is_unsupported a.angles, cause.Unsupported)
    ∷ (has_unknown names a, cause.Unknown)
    ∷ (has_wrong_count names a, cause.WrongCount)
    ∷ (list_any (has_past_index names) a.qubits, cause.Index)
    ∷ (has_other_size (register_sizes (ranges_of names a.qubits)), cause.Sizes)
    ∷ (list_any (has_twice ◌==◌) (instances (ranges_of names a.qubits)), cause.SameQubit) ∷ []

-- the tests of a measurement
abbrev pub measure_tests : Lookup → Operand → Operand → List (Bool × Cause)
measure_tests names from to =
    (is_no_register (register_of names from) || is_no_register (bit_register_of names to), cause.Unknown)
    ∷ (is_past (register_of names from) from.index || is_past (bit_register_of names to) to.index, cause.Index)
    ∷ (are_unlike (range_of names from) (bit_range_of names to), cause.Sizes) ∷ []

-- the tests of a statement after the first one, calls and angles aside, each with the cause that it finds
abbrev pub statement_tests : Scope → Sentence → List (Bool × Cause)
statement_tests scope (Version real) = (true, cause.SecondVersion) ∷ []
statement_tests scope (Include text) =
    (not (bytes_eq text (codes "\"qelib1.inc\"")), cause.Include)
    ∷ (list_any (λ form. is_declared form.name scope) first_gates, cause.Redeclared) ∷ []
statement_tests scope (QubitRegister name size) =
    (is_taken name scope, cause.Redeclared) ∷ (numeral size == 0, cause.EmptyRegister)
    ∷ (nat_lt most_qubits (qubit_count scope + numeral size), cause.TooManyQubits) ∷ []
statement_tests scope (BitRegister name size) =
    (is_taken name scope, cause.Redeclared) ∷ (numeral size == 0, cause.EmptyRegister)
    ∷ (nat_lt most_bits (bit_count scope + numeral size), cause.TooManyBits) ∷ []
statement_tests scope (DeclareGate form) =
    (list_any body_is_unsupported form.body, cause.Unsupported)
    ∷ (is_taken form.name scope || has_twice bytes_eq (form.parameters ++ form.qubits), cause.Redeclared)
    ∷ (form_has_unknown (lookup_in scope) form, cause.Unknown)
    ∷ (list_any (body_has_wrong_count (lookup_in scope)) form.body, cause.WrongCount)
    ∷ (list_any body_has_same_qubit form.body, cause.SameQubit) ∷ []
statement_tests scope (Barrier operands) =
    (list_any (has_no_register (lookup_in scope)) operands, cause.Unknown)
    ∷ (list_any (has_past_index (lookup_in scope)) operands, cause.Index) ∷ []
statement_tests scope (Act (Applied a)) = application_tests (lookup_in scope) a
statement_tests scope (Act (Measured from to)) = measure_tests (lookup_in scope) from to
statement_tests scope sentence = (true, cause.Unsupported) ∷ []

-- what is wrong with it
unfoldable pub wrong_in : Scope → Sentence → Option Cause
wrong_in scope sentence = first_cause (statement_tests scope sentence)

-- the tests of a statement behind these measurements
abbrev pub tests_behind : Scope → List Measure → Sentence → List (Bool × Cause)
tests_behind scope measured (Act (Applied a)) =
    (list_any (holds_any (qubits_of measured)) (ranges_of (lookup_in scope) a.qubits), cause.AfterMeasure) ∷ []
tests_behind scope measured (Act (Measured from to)) =
    (holds_any (qubits_of measured) (range_of (lookup_in scope) from), cause.AfterMeasure)
    ∷ (holds_any (bits_of measured) (bit_range_of (lookup_in scope) to), cause.BitTwice) ∷ []
tests_behind scope measured sentence = []

-- what is wrong with it behind them
abbrev pub wrong_behind : Scope → List Measure → Sentence → Option Cause
wrong_behind scope measured sentence = first_cause (tests_behind scope measured sentence)
