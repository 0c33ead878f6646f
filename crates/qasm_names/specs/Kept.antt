-- How declarations are kept while a program is read. Gates are known by their number, in the order of their
-- declarations, and bodies are lists of calls with names resolved. `Represents` joins what is kept with the scope of
-- the program so far.
use Rattle.std.specs.Prelude.{◌≡◌, ℕ, ◌+◌, ◌≤◌, Bool, true, false, not, if◌then◌else◌, List, [], ◌∷◌, ◌++◌, length, map}
use Rattle.std.specs.Prelude.{Option, None, Some}
use Rattle.std.specs.Borrow.{Bor}
use Rattle.std.specs.List.{list_any}
use Rattle.std.specs.Str.{bytes_eq}
use Rattle.std.specs.BTreeMap.{BTreeMap, get_by}
use Rattle.std.specs.Cmp.Lexicographic.{slice_cmp}
use Rattle.std.specs.Ordering.{nat_cmp}
use Rattle.zx_gates.specs.Circuit.{most_qubits}
use Rattle.zx_gates.specs.Elementary.{most_bits}
use Rattle.qasm_angle.specs.Trees.{Tree}
use Rattle.qasm_reader.specs.Syntax.{Callee, Declared, U, Cx, GateForm, BodySentence, BodyApplied, BodyBarrier}
use Rattle.qasm_scope.specs.Angles.{FormalPlaces, numbered, place_or_zero, places_among}
use Rattle.qasm_scope.specs.Faults.{body_has_wrong_count, body_has_same_qubit, form_has_unknown}
use Rattle.qasm_scope.specs.Scope.{Scope, Declaration, Meaning, Qubits, Bits, Gate, bit_count, is_declared, lookup_in}
use Rattle.qasm_scope.specs.Scope.{qubit_count}
use Rattle.qasm_scope.specs.Applications.{has_twice}
use Rattle.qasm_names.specs.declared.gates.GateBody.{GateBody}
use Rattle.qasm_names.specs.declared.gates.GateCall.{GateCall}
use Rattle.qasm_names.specs.declared.gates.CalledGate.{CalledGate}
use Rattle.qasm_names.specs.declared.names.Names.{Names}
use Rattle.qasm_names.specs.declared.names.Symbol.{Symbol}
use Rattle.qasm_names.specs.declared.gates.CalledGate.TheVariants as called_gate
use Rattle.qasm_names.specs.declared.names.Symbol.TheVariants as symbol

-- a call in a body, without where it lies in memory
pub record KeptCall : Type 0 where
  pub called : CalledGate
  pub angles : List Tree
  pub qubits : List ℕ

abbrev pub kept_call : GateCall → KeptCall
kept_call c = record { called = c.called; angles = c.angles.items; qubits = c.qubits.items }

abbrev pub kept_body : GateBody → List KeptCall
kept_body gate = map kept_call gate.calls.items

-- how many gates are declared
abbrev pub gates_in : Meaning → ℕ
gates_in (Gate form) = 1
gates_in (Qubits first size) = 0
gates_in (Bits first size) = 0

abbrev pub gate_count : Scope → ℕ
gate_count [] = 0
gate_count (declaration ∷ scope) = gates_in declaration.meaning + gate_count scope

abbrev pub gate_declaration : GateForm → Bool → Declaration
gate_declaration form replaceable = record { name = form.name; meaning = Gate form; replaceable = replaceable }

-- what a declaration is kept as, after so many gates
abbrev pub symbol_in : ℕ → Bool → Meaning → Symbol
symbol_in number replaceable (Qubits first size) = symbol.Qubits first size
symbol_in number replaceable (Bits first size) = symbol.Bits first size
symbol_in number replaceable (Gate form) = symbol.Gate number (length form.parameters) (length form.qubits) replaceable

-- what a name is kept as
abbrev pub symbol_of : List ℕ → Scope → Option Symbol
symbol_of name [] = None
symbol_of name (declaration ∷ scope) =
    if bytes_eq declaration.name name then Some (symbol_in
    (gate_count scope) declaration.replaceable declaration.meaning)
    else symbol_of name scope

-- what it says of a gate: how many angles and qubits it has
abbrev pub symbol_shape : Option Symbol → Option (ℕ × ℕ)
symbol_shape (Some (symbol.Gate number angles qubits replaceable)) = Some (angles, qubits)
symbol_shape (Some (symbol.Qubits first size)) = None
symbol_shape (Some (symbol.Bits first size)) = None
symbol_shape None = None

-- of a register of qubits: its first qubit and its size
abbrev pub symbol_register : Option Symbol → Option (ℕ × ℕ)
symbol_register (Some (symbol.Qubits first size)) = Some (first, size)
symbol_register (Some (symbol.Gate number angles qubits replaceable)) = None
symbol_register (Some (symbol.Bits first size)) = None
symbol_register None = None

-- of a register of bits: its first bit and its size
abbrev pub symbol_bits : Option Symbol → Option (ℕ × ℕ)
symbol_bits (Some (symbol.Bits first size)) = Some (first, size)
symbol_bits (Some (symbol.Gate number angles qubits replaceable)) = None
symbol_bits (Some (symbol.Qubits first size)) = None
symbol_bits None = None

-- the name may not be declared again
abbrev pub symbol_taken : Option Symbol → Bool
symbol_taken (Some (symbol.Gate number angles qubits replaceable)) = not replaceable
symbol_taken (Some (symbol.Qubits first size)) = true
symbol_taken (Some (symbol.Bits first size)) = true
symbol_taken None = false

-- the number of a gate
abbrev pub number_in : Option Symbol → ℕ
number_in (Some (symbol.Gate number angles qubits replaceable)) = number
number_in (Some (symbol.Qubits first size)) = 0
number_in (Some (symbol.Bits first size)) = 0
number_in None = 0

-- what names are kept as, by a scope or by a map
abbrev pub KeptNames : Type 0
KeptNames = List ℕ → Option Symbol

abbrev pub kept_names : Scope → KeptNames
kept_names scope name = symbol_of name scope

-- the gate of a name: one that is built in, or by its number
abbrev pub called_for : KeptNames → Callee → CalledGate
called_for names (Declared name) = called_gate.Gate (number_in (names name))
called_for names U = called_gate.U
called_for names Cx = called_gate.Cx

-- the statements of a body are kept as calls, their names by places, but for barriers
abbrev pub kept_calls : KeptNames → FormalPlaces → FormalPlaces → List BodySentence → List KeptCall
kept_calls names parameters qubits [] = []
kept_calls names parameters qubits (BodyApplied a ∷ body) = record {
  called = called_for names a.gate;
  angles = map (numbered parameters) a.angles;
  qubits = map (λ name. place_or_zero (qubits name)) a.qubits;
} ∷ kept_calls names parameters qubits body
kept_calls names parameters qubits (BodyBarrier others ∷ body) = kept_calls names parameters qubits body

-- so are those of a form in a scope
abbrev pub form_calls : Scope → GateForm → List KeptCall
form_calls scope form =
    kept_calls (kept_names scope) (places_among form.parameters) (places_among form.qubits) form.body

-- the gates of a scope, in the order of their declarations
abbrev pub kept_in : Scope → Meaning → List (List KeptCall)
kept_in scope (Gate form) = form_calls scope form ∷ []
kept_in scope (Qubits first size) = []
kept_in scope (Bits first size) = []

abbrev pub kept_gates : Scope → List (List KeptCall)
kept_gates [] = []
kept_gates (declaration ∷ scope) = kept_gates scope ++ kept_in scope declaration.meaning

-- a declared gate, in the scope before it
pub record IsSoundGate (scope : Scope) (form : GateForm) : Type 0 where
  pub all_known : form_has_unknown (lookup_in scope) form ≡ false
  pub same_counts : list_any (body_has_wrong_count (lookup_in scope)) form.body ≡ false
  pub other_qubits : list_any body_has_same_qubit form.body ≡ false
  pub other_names : has_twice bytes_eq (form.parameters ++ form.qubits) ≡ false

-- a register begins behind so many qubits or bits, and with it there are no more than the most
pub record IsSoundRegister (count most first size : ℕ) : Type 0 where
  pub after_others : first ≡ count
  pub few : size + count ≤ most

abbrev pub IsSoundMeaning : Scope → Meaning → Bool → Type 0
IsSoundMeaning scope (Gate form) replaceable = IsSoundGate scope form
IsSoundMeaning scope (Qubits first size) replaceable =
    IsSoundRegister (qubit_count scope) most_qubits first size × (replaceable ≡ false)
IsSoundMeaning scope (Bits first size) replaceable =
    IsSoundRegister (bit_count scope) most_bits first size × (replaceable ≡ false)

-- what is replaceable was free
abbrev pub IsFresh : List ℕ → Bool → Scope → Type 0
IsFresh name true scope = is_declared name scope ≡ false
IsFresh name false scope = Unit {0}

-- each declaration was checked
abbrev pub IsSound : Scope → Type 0
IsSound [] = Unit {0}
IsSound (declaration ∷ scope) =
    IsSoundMeaning scope declaration.meaning declaration.replaceable
    × IsFresh declaration.name declaration.replaceable scope × IsSound scope

-- what a name is kept as, by the map
abbrev pub found : {A : Type 0} → List ℕ → BTreeMap (Bor (List ℕ)) A → Option A
found name symbols = get_by (λ key. slice_cmp nat_cmp name key.now) symbols

-- the declarations so far are those of the scope
pub record Represents (names : Names) (scope : Scope) : Type 0 where
  pub same_symbols : (name : List ℕ) → found name names.symbols ≡ symbol_of name scope
  pub same_gates : map kept_body names.gates.items ≡ kept_gates scope
  pub same_qubits : names.qubits ≡ qubit_count scope
  pub same_bits : names.bits ≡ bit_count scope
  pub sound : IsSound scope

-- in each scope in which this is how a sound gate is kept, it is declared
abbrev pub DeclaresGate : Names → Names → List ℕ → ℕ → ℕ → List KeptCall → Bool → Type 0
DeclaresGate before after name angles qubits body replaceable =
    (scope : Scope) (form : GateForm) → Represents before scope
    → name ≡ form.name → angles ≡ length form.parameters → qubits ≡ length form.qubits →
    body ≡ form_calls scope form
    → IsSoundGate scope form → IsFresh form.name replaceable scope →
    Represents after (gate_declaration form replaceable ∷ scope)
