-- What names stand for: the declarations that stand before a place in a text.
-- Cross, Bishop, Smolin and Gambetta, "Open quantum assembly language" (arXiv 1707.03429), on registers, gates and
-- includes.
use Rattle.std.specs.Prelude.{ℕ, ◌+◌, ◌-◌, Bool, false, ◌&&◌, not, if◌then◌else◌, List, [], ◌∷◌, map, Option, None}
use Rattle.std.specs.Prelude.{Some, length}
use Rattle.std.specs.Str.{bytes_eq}
use Rattle.std.specs.List.{list_any}
use Rattle.qasm_angle.specs.Literals.{number_of}
use Rattle.qasm_reader.specs.Syntax.{GateForm}

-- what a name stands for
pub data Meaning : Type 0 where
  -- a register of qubits: the number of its first qubit, and its size
  Qubits : ℕ → ℕ → Meaning
  -- a register of bits: the number of its first bit, and its size
  Bits : ℕ → ℕ → Meaning
  -- a gate
  Gate : GateForm → Meaning

pub record Declaration : Type 0 where
  pub name : List ℕ
  pub meaning : Meaning
  -- whether a text may declare the name again: so are some names of the header
  pub replaceable : Bool

-- the declarations that stand before, the last one first
abbrev pub Scope : Type 0
Scope = List Declaration

-- what a name stands for; of several declarations of it the last one counts
abbrev pub meaning_of : List ℕ → Scope → Option Meaning
meaning_of name [] = None
meaning_of name (declaration ∷ scope) =
    if bytes_eq declaration.name name then Some declaration.meaning else meaning_of name scope

-- the name is declared, whether or not it may be declared again
abbrev pub is_declared : List ℕ → Scope → Bool
is_declared name scope = list_any (λ declaration. bytes_eq declaration.name name) scope

-- the name may not be declared again
abbrev pub is_taken : List ℕ → Scope → Bool
is_taken name scope = list_any (λ declaration. bytes_eq declaration.name name && not declaration.replaceable) scope

-- the value of a numeral
unfoldable pub numeral : List ℕ → ℕ
numeral text = number_of (map (λ digit. digit - 48) text)

-- how many qubits are declared
abbrev pub qubits_in : Meaning → ℕ
qubits_in (Qubits first size) = size
qubits_in meaning = 0

abbrev pub qubit_count : Scope → ℕ
qubit_count [] = 0
qubit_count (declaration ∷ scope) = qubits_in declaration.meaning + qubit_count scope

-- how many bits are declared
abbrev pub bits_in : Meaning → ℕ
bits_in (Bits first size) = size
bits_in meaning = 0

abbrev pub bit_count : Scope → ℕ
bit_count [] = 0
bit_count (declaration ∷ scope) = bits_in declaration.meaning + bit_count scope

-- the register of qubits that a name stands for: the number of its first qubit, and its size
abbrev pub qubit_register : Option Meaning → Option (ℕ × ℕ)
qubit_register (Some (Qubits first size)) = Some (first, size)
qubit_register meaning = None

-- the register of bits that it stands for
abbrev pub bit_register : Option Meaning → Option (ℕ × ℕ)
bit_register (Some (Bits first size)) = Some (first, size)
bit_register meaning = None

-- a gate of that name: how many angles and qubits it has
abbrev pub shape_in : Option Meaning → Option (ℕ × ℕ)
shape_in (Some (Gate form)) = Some (length form.parameters, length form.qubits)
shape_in meaning = None

-- What names stand for, however they are kept: how many angles and qubits a gate has, and a register's first number and
-- its size.
pub record Lookup : Type 0 where
  pub gates : List ℕ → Option (ℕ × ℕ)
  pub qubits : List ℕ → Option (ℕ × ℕ)
  pub bits : List ℕ → Option (ℕ × ℕ)

-- what they stand for in a scope
abbrev pub lookup_in : Scope → Lookup
lookup_in scope = record {
  gates = λ name. shape_in (meaning_of name scope);
  qubits = λ name. qubit_register (meaning_of name scope);
  bits = λ name. bit_register (meaning_of name scope);
}

-- a declaration that can't be repeated
abbrev pub declared : List ℕ → Meaning → Declaration
declared name meaning = record { name = name; meaning = meaning; replaceable = false }
