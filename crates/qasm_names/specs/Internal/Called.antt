-- The gate that an application calls, and the places of its qubits.
use Rattle.std.specs.Prelude.{◌≡◌, Bool, false, ◌||◌, List, map, ℕ}
use Rattle.std.specs.List.{list_any}
use Rattle.qasm_reader.specs.Syntax.{Callee}
use Rattle.qasm_scope.specs.Angles.{place_or_zero}
use Rattle.qasm_scope.specs.Faults.{is_no_gate, has_other_shape, is_other, shape_of, is_hidden}
use Rattle.qasm_names.specs.declared.formals.Formals.{Formals}
use Rattle.qasm_names.specs.declared.gates.CalledGate.{CalledGate}
use Rattle.qasm_names.specs.declared.places.Places.{Places}
use Rattle.qasm_names.specs.Checks.{Symbols, lookup_by, kept_by}
use Rattle.qasm_names.specs.Places.{place_in}
use Rattle.qasm_names.specs.Kept.{called_for}

-- a formal name hides that of the gate, or there is no such gate, or it has other numbers of angles and qubits
abbrev pub is_miscalled : Symbols → Formals → Callee → ℕ → ℕ → Bool
is_miscalled symbols formals gate angles qubits =
    is_hidden (place_in formals.parameters) (place_in formals.qubits) gate
    || is_no_gate (shape_of (lookup_by symbols) gate)
    || has_other_shape (shape_of (lookup_by symbols) gate) angles qubits

-- this is the gate that is called, and nothing of that is wrong
pub record IsCalled (symbols : Symbols) (formals : Formals) (gate : Callee) (angles qubits : ℕ)
    (called : CalledGate) : Type 0 where
  pub well : is_miscalled symbols formals gate angles qubits ≡ false
  pub same : called ≡ called_for (kept_by symbols) gate

-- the names have places, and these are they
pub record AreFound (places : Places) (names : List (List ℕ)) (found : List ℕ) : Type 0 where
  pub all_placed : list_any (is_other (place_in places)) names ≡ false
  pub same : found ≡ map (λ name. place_or_zero (place_in places name)) names
