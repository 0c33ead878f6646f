-- What is kept of a gate whose body is read statement by statement.
use Rattle.std.specs.Prelude.{◌≡◌, Bool, false, length, map, None}
use Rattle.qasm_reader.specs.Syntax.{DeclareGate, GateForm}
use Rattle.qasm_scope.specs.Faults.{wrong_in}
use Rattle.qasm_names.specs.declared.gate_in_progress.GateInProgress.{GateInProgress}
use Rattle.qasm_names.specs.declared.names.Names.{Names}
use Rattle.qasm_scope.specs.Scope.{Scope}
use Rattle.qasm_names.specs.Places.{ArePlaces, place_in}
use Rattle.qasm_names.specs.Kept.{IsFresh, kept_call, kept_calls}
use Rattle.qasm_names.specs.Checks.{is_redeclared_by, kept_by}
use Rattle.qasm_names.specs.Bodies.{faults_of, is_faulty}

-- this is kept of the gate, whose body so far the form has: its heading, what is wrong with it, and where nothing is
-- wrong with its body, the calls
pub record IsBegun (names : Names) (gate : GateInProgress) (form : GateForm) : Type 0 where
  pub same_name : gate.name.now ≡ form.name
  pub same_angles : gate.angles ≡ length form.parameters
  pub same_qubits : gate.qubits ≡ length form.qubits
  pub parameter_places : ArePlaces gate.formals.parameters form.parameters
  pub qubit_places : ArePlaces gate.formals.qubits form.qubits
  pub redeclared : gate.redeclared ≡ is_redeclared_by names.symbols form
  pub faults : gate.faults ≡ faults_of names.symbols gate.formals form.body
  pub calls : is_faulty gate.faults ≡ false
      → map kept_call gate.calls.items ≡ kept_calls (kept_by names.symbols) (place_in gate.formals.parameters)
      (place_in gate.formals.qubits) form.body

-- nothing is wrong with the declaration of a gate, and where it is replaceable, its name was free
pub record IsFaultlessGate (scope : Scope) (form : GateForm) (replaceable : Bool) : Type 0 where
  pub right : wrong_in scope (DeclareGate form) ≡ None
  pub fresh : IsFresh form.name replaceable scope
