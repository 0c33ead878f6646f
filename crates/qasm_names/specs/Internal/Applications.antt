-- What is wrong with a statement of a gate's body, and the call that it is kept as.
use Rattle.std.specs.Prelude.{◌≡◌, [], ◌∷◌, map}
use Rattle.qasm_reader.specs.Postfix.{formula_of}
use Rattle.qasm_reader.specs.Syntax.{BodyApply, BodySentence, BodyApplied}
use Rattle.qasm_reader.specs.Views.{callee}
use Rattle.qasm_reader.specs.declared.program.BodyApplication.{BodyApplication}
use Rattle.qasm_scope.specs.Faults.{body_is_unsupported, body_has_same_qubit, body_has_unknown, body_has_wrong_count}
use Rattle.qasm_names.specs.declared.body_faults.BodyFaults.{BodyFaults}
use Rattle.qasm_names.specs.declared.formals.Formals.{Formals}
use Rattle.qasm_names.specs.declared.gates.GateCall.{GateCall}
use Rattle.qasm_names.specs.Checks.{Symbols, lookup_by, kept_by}
use Rattle.qasm_names.specs.Kept.{kept_call, kept_calls}
use Rattle.qasm_names.specs.Bodies.{no_faults}
use Rattle.qasm_names.specs.Places.{place_in}

-- an application, without where it lies in memory
abbrev pub apply_of : BodyApplication → BodyApply
apply_of a = record {
  gate = callee a.gate;
  angles = map formula_of a.angles.items;
  qubits = map (λ name. name.now) a.qubits.items;
}

-- what is wrong with a statement, by what names are kept as
abbrev pub statement_faults : Symbols → Formals → BodySentence → BodyFaults
statement_faults symbols formals statement = record {
  unsupported = body_is_unsupported statement;
  unknown = body_has_unknown (lookup_by symbols) (place_in formals.parameters) (place_in formals.qubits) statement;
  wrong_count = body_has_wrong_count (lookup_by symbols) statement;
  same_qubit = body_has_same_qubit statement;
}

-- what is wrong with an application
abbrev pub application_faults : Symbols → Formals → BodyApply → BodyFaults
application_faults symbols formals a = statement_faults symbols formals (BodyApplied a)

-- nothing is wrong with the application, and it is kept as this call
pub record IsCall (symbols : Symbols) (formals : Formals) (a : BodyApply) (call : GateCall) : Type 0 where
  pub faultless : application_faults symbols formals a ≡ no_faults
  pub same : kept_call call ∷ [] ≡ kept_calls (kept_by symbols) (place_in formals.parameters) (place_in formals.qubits)
      (BodyApplied a ∷ [])
