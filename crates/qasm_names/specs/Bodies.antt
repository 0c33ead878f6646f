-- What is wrong with the bodies of gates, and the calls that their statements are kept as.
use Rattle.std.specs.Prelude.{Bool, false, ◌||◌, List, Option}
use Rattle.std.specs.List.{list_any}
use Rattle.qasm_reader.specs.Syntax.{BodySentence}
use Rattle.qasm_scope.specs.Faults.{body_is_unsupported, body_has_same_qubit, body_has_unknown, body_has_wrong_count}
use Rattle.qasm_names.specs.declared.body_faults.BodyFaults.{BodyFaults}
use Rattle.qasm_scope.specs.declared.causes.Cause.{Cause}
use Rattle.qasm_names.specs.declared.formals.Formals.{Formals}
use Rattle.qasm_names.specs.Checks.{Symbols, gate_cause, lookup_by}
use Rattle.qasm_names.specs.Places.{place_in}

-- no fault
abbrev pub no_faults : BodyFaults
no_faults = record { unsupported = false; unknown = false; wrong_count = false; same_qubit = false }

-- there is a fault
abbrev pub is_faulty : BodyFaults → Bool
is_faulty f = f.unsupported || f.unknown || f.wrong_count || f.same_qubit

-- the faults of both
abbrev pub joined : BodyFaults → BodyFaults → BodyFaults
joined f g = record {
  unsupported = f.unsupported || g.unsupported;
  unknown = f.unknown || g.unknown;
  wrong_count = f.wrong_count || g.wrong_count;
  same_qubit = f.same_qubit || g.same_qubit;
}

-- the first cause of a declaration with these faults in its body
abbrev pub cause_of : BodyFaults → Bool → Option Cause
cause_of f redeclared = gate_cause f.unsupported redeclared f.unknown f.wrong_count f.same_qubit

-- what is wrong with a body
abbrev pub faults_of : Symbols → Formals → List BodySentence → BodyFaults
faults_of symbols formals statements = record {
  unsupported = list_any body_is_unsupported statements;
  unknown = list_any (body_has_unknown (lookup_by symbols) (place_in formals.parameters) (place_in formals.qubits))
      statements;
  wrong_count = list_any (body_has_wrong_count (lookup_by symbols)) statements;
  same_qubit = list_any body_has_same_qubit statements;
}
