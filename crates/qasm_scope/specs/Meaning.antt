-- The first fault of a program, and the circuit and the measurements that it means, however many calls it makes.
use Rattle.std.specs.Prelude.{◌≡◌, ℕ, ◌+◌, Bool, true, false, if◌then◌else◌, List, [], ◌∷◌, ◌++◌, Option, None, Some}
use Rattle.std.specs.Prelude.{codes}
use Rattle.std.specs.List.{fold}
use Rattle.std.specs.Option.{option_map, option_or}
use Rattle.std.specs.Str.{bytes_eq}
use Rattle.zx_gates.specs.declared.elementary.ElementaryGate.{ElementaryGate}
use Rattle.zx_gates.specs.declared.elementary.Measure.{Measure}
use Rattle.qasm_reader.specs.Syntax.{Applied, GateForm, Sentence, Version, Include, QubitRegister, BitRegister}
use Rattle.qasm_reader.specs.Syntax.{DeclareGate, Act, Placed}
use Rattle.qasm_scope.specs.declared.causes.Cause.{Cause}
use Rattle.qasm_scope.specs.declared.causes.Cause.TheVariants as cause
use Rattle.qasm_scope.specs.Applications.{application_events}
use Rattle.qasm_scope.specs.Calls.{Event, applied, call_count, first_wrong}
use Rattle.qasm_scope.specs.Faults.{wrong_behind, wrong_in}
use Rattle.qasm_scope.specs.HeaderGates.{first_gates, further_gates}
use Rattle.qasm_scope.specs.Measurements.{measured_by}
use Rattle.qasm_scope.specs.Scope.{Scope, Qubits, Bits, Gate, declared, is_declared, numeral, qubit_count, bit_count}

-- the declarations of the header's gates: of the further ones those whose names are free
abbrev pub with_first : List GateForm → Scope → Scope
with_first forms scope = fold (λ before form. declared form.name (Gate form) ∷ before) scope forms

abbrev pub with_further : List GateForm → Scope → Scope
with_further forms scope =
    fold (λ before form. if is_declared form.name before then before
    else record { name = form.name; meaning = Gate form; replaceable = true } ∷ before) scope forms

unfoldable pub with_header : Scope → Scope
with_header scope = with_further further_gates (with_first first_gates scope)

-- the scope after a statement
abbrev pub after_statement : Scope → Sentence → Scope
after_statement scope (Include text) = with_header scope
after_statement scope (QubitRegister name size) = declared name (Qubits (qubit_count scope) (numeral size)) ∷ scope
after_statement scope (BitRegister name size) = declared name (Bits (bit_count scope) (numeral size)) ∷ scope
after_statement scope (DeclareGate form) = declared form.name (Gate form) ∷ scope
after_statement scope sentence = scope

-- what a statement comes to
abbrev pub events_of : Scope → Sentence → List Event
events_of scope (Act (Applied a)) = application_events scope a
events_of scope sentence = []

-- what is wrong with a statement after the first one, where these qubits and bits were measured before, so many calls
-- were made and at most so many may be
abbrev pub wrong_with : ℕ → Scope → List Measure → ℕ → Sentence → Option Cause
wrong_with most scope measured calls sentence =
    option_or (wrong_in scope sentence)
    (option_or (wrong_behind scope measured sentence) (first_wrong most calls (events_of scope sentence)))

-- the first fault of the statements after the first one: what is wrong with a statement, and its place, or what is
-- wrong further on
abbrev pub fault_after : ℕ → Scope → List Measure → ℕ → List Placed → Option (Cause × ℕ)
fault_after most scope measured calls [] = None
fault_after most scope measured calls (s ∷ statements) =
    option_or (option_map (λ cause. (cause, s.place)) (wrong_with most scope measured calls s.sentence))
    (fault_after most (after_statement scope s.sentence) (measured ++ measured_by scope s.sentence)
    (calls + call_count (events_of scope s.sentence)) statements)

-- the statement is `OPENQASM 2.0;`
abbrev pub is_version : Sentence → Bool
is_version (Version real) = bytes_eq real (codes "2.0")
is_version sentence = false

-- the first fault of a program in which at most so many calls may be made
unfoldable pub first_fault : ℕ → List Placed → Option (Cause × ℕ)
first_fault most [] = Some (cause.Version, 0)
first_fault most (s ∷ statements) =
    if is_version s.sentence then fault_after most [] [] 0 statements else Some (cause.Version, s.place)

-- the most calls that a program that is read may make
abbrev pub most_calls : ℕ
most_calls = 1000000

-- the scope after all statements
abbrev pub scope_after : Scope → List Placed → Scope
scope_after scope statements = fold (λ before s. after_statement before s.sentence) scope statements

-- the built-in gates that act, in order
abbrev pub gates_after : Scope → List Placed → List ElementaryGate
gates_after scope [] = []
gates_after scope (s ∷ statements) =
    applied (events_of scope s.sentence) ++ gates_after (after_statement scope s.sentence) statements

-- the measurements, in order
abbrev pub measures_after : Scope → List Placed → List Measure
measures_after scope [] = []
measures_after scope (s ∷ statements) =
    measured_by scope s.sentence ++ measures_after (after_statement scope s.sentence) statements

-- The program means the circuit of so many qubits and these gates, with these measurements into so many bits: it has no
-- fault but that it may make any number of calls.
pub record Means (program : List Placed) (qubits : ℕ) (gates : List ElementaryGate) (bits : ℕ)
    (measured : List Measure) : Type 0 where
  pub most : ℕ
  pub faultless : first_fault most program ≡ None
  pub as_many_qubits : qubits ≡ qubit_count (scope_after [] program)
  pub same_gates : gates ≡ gates_after [] program
  pub as_many_bits : bits ≡ bit_count (scope_after [] program)
  pub same_measures : measured ≡ measures_after [] program
