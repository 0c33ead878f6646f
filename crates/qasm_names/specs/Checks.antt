-- What names stand for by what they are kept as, and what is wrong first with a declaration of a gate.
use Rattle.std.specs.Prelude.{ℕ, Bool, ◌||◌, ◌++◌, if◌then◌else◌, List, Option, None, Some}
use Rattle.std.specs.Borrow.{Bor}
use Rattle.std.specs.BTreeMap.{BTreeMap}
use Rattle.std.specs.Str.{bytes_eq}
use Rattle.qasm_reader.specs.Syntax.{GateForm}
use Rattle.qasm_scope.specs.Applications.{has_twice}
use Rattle.qasm_scope.specs.Scope.{Lookup}
use Rattle.qasm_scope.specs.declared.causes.Cause.{Cause}
use Rattle.qasm_scope.specs.declared.causes.Cause.TheVariants as cause
use Rattle.qasm_names.specs.declared.gates.KnownGate.{KnownGate}
use Rattle.qasm_names.specs.declared.names.Symbol.{Symbol}
use Rattle.qasm_names.specs.Kept.{KeptNames, found, symbol_bits, symbol_register, symbol_shape, symbol_taken}

-- what each name is kept as
abbrev pub Symbols : Type 0
Symbols = BTreeMap (Bor (List ℕ)) Symbol

abbrev pub kept_by : Symbols → KeptNames
kept_by symbols name = found name symbols

-- what names stand for by what they are kept as
abbrev pub lookup_by : Symbols → Lookup
lookup_by symbols = record {
  gates = λ name. symbol_shape (found name symbols);
  qubits = λ name. symbol_register (found name symbols);
  bits = λ name. symbol_bits (found name symbols);
}

-- how many angles and qubits a gate has
abbrev pub gate_shape : KnownGate → ℕ × ℕ
gate_shape gate = (gate.angles, gate.qubits)

-- the first cause of a declaration of a gate
abbrev pub gate_cause : Bool → Bool → Bool → Bool → Bool → Option Cause
gate_cause unsupported redeclared unknown wrong_count same_qubit =
    if unsupported then Some cause.Unsupported else
    if redeclared then Some cause.Redeclared else
    if unknown then Some cause.Unknown else
    if wrong_count then Some cause.WrongCount else
    if same_qubit then Some cause.SameQubit else None

-- the gate's name is taken, or two formal names are equal
abbrev pub is_redeclared_by : Symbols → GateForm → Bool
is_redeclared_by symbols form =
    symbol_taken (found form.name symbols) || has_twice bytes_eq (form.parameters ++ form.qubits)
