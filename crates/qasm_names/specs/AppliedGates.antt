-- The gate and the angles of an application, by what names are kept as. In a statement of a program there are no formal
-- names.
use Rattle.std.specs.Prelude.{◌≡◌, ℕ, Bool, false, ◌||◌, List, length, map}
use Rattle.std.specs.List.{list_any}
use Rattle.qasm_reader.specs.Syntax.{Callee, Formula}
use Rattle.qasm_scope.specs.Angles.{is_unsupported, numbered}
use Rattle.qasm_scope.specs.Faults.{is_no_gate, has_other_shape, has_other_name, shape_of, is_hidden}
use Rattle.qasm_names.specs.declared.applied_gates.AppliedGate.{AppliedGate}
use Rattle.qasm_names.specs.declared.applied_gates.GateFaults.{GateFaults}
use Rattle.qasm_names.specs.declared.formals.Formals.{Formals}
use Rattle.qasm_names.specs.Checks.{Symbols, lookup_by, kept_by}
use Rattle.qasm_names.specs.Kept.{called_for}
use Rattle.qasm_names.specs.Places.{place_in}

-- a formal name hides the gate, there is no such gate, or an angle holds a name that is no parameter
abbrev pub is_unknown_gate : Symbols → Formals → Callee → List Formula → Bool
is_unknown_gate symbols formals gate angles =
    is_hidden (place_in formals.parameters) (place_in formals.qubits) gate
    || is_no_gate (shape_of (lookup_by symbols) gate) || list_any (has_other_name (place_in formals.parameters)) angles

-- the gate has other numbers of angles and qubits than these
abbrev pub is_other_shape : Symbols → Callee → ℕ → ℕ → Bool
is_other_shape symbols gate angles qubits = has_other_shape (shape_of (lookup_by symbols) gate) angles qubits

-- what is wrong with the gate, these angles, and so many qubits
abbrev pub gate_faults : Symbols → Formals → Callee → List Formula → ℕ → GateFaults
gate_faults symbols formals gate angles qubits = record {
  unsupported = list_any is_unsupported angles;
  unknown = is_unknown_gate symbols formals gate angles;
  wrong_count = is_other_shape symbols gate (length angles) qubits;
}

-- one of these is wrong
abbrev pub has_fault : GateFaults → Bool
has_fault f = f.unsupported || f.unknown || f.wrong_count

-- nothing is wrong with the gate, these angles and so many qubits, and this is what they are kept as
pub record IsAppliedGate (symbols : Symbols) (formals : Formals) (gate : Callee) (angles : List Formula) (qubits : ℕ)
    (applied : AppliedGate) : Type 0 where
  pub faultless : has_fault (gate_faults symbols formals gate angles qubits) ≡ false
  pub same_gate : applied.called ≡ called_for (kept_by symbols) gate
  pub same_angles : applied.angles.items ≡ map (numbered (place_in formals.parameters)) angles
