-- What a circuit that takes in a program's statements one after the other is, and what its answer says of them.
use Rattle.std.specs.Prelude.{◌≡◌, ℕ, List, [], ◌∷◌, ◌++◌, Option, None, Some, Result, Ok, Err}
use Rattle.zx_gates.specs.declared.elementary.Elementary.{Elementary}
use Rattle.zx_gates.specs.declared.elementary.ElementaryGate.{ElementaryGate}
use Rattle.zx_gates.specs.declared.elementary.Measure.{Measure}
use Rattle.qasm_reader.specs.Syntax.{Act, Applied, Callee, DeclareGate, GateForm, Operand, Placed}
use Rattle.qasm_unroll.specs.declared.circuit.Circuit.{Circuit}
use Rattle.qasm_unroll.specs.declared.circuit.OpenGate.{OpenGate}
use Rattle.qasm_unroll.specs.declared.circuit.Stage.{Stage}
use Rattle.qasm_unroll.specs.declared.circuit.Stage.TheVariants.{Empty, Open, Stopped}
use Rattle.qasm_unroll.specs.declared.error.InlineError.{InlineError}
use Rattle.qasm_unroll.specs.declared.error.InlineError.TheVariants.{Fault, NoMemory}
use Rattle.qasm_unroll.specs.declared.measured.Measured.{Measured}
use Rattle.qasm_unroll.specs.declared.unroll.Unrolled.{Unrolled}
use Rattle.qasm_unroll.specs.Internal.KeptMeasures.{Remembers}
use Rattle.qasm_unroll.specs.Internal.KnownCalls.{Knows}
use Rattle.qasm_unroll.specs.Internal.Recents.{IsRecent}
use Rattle.qasm_names.specs.declared.gate_in_progress.GateInProgress.{GateInProgress}
use Rattle.qasm_names.specs.declared.names.Names.{Names}
use Rattle.qasm_names.specs.Begun.{IsBegun}
use Rattle.qasm_names.specs.Kept.{Represents}
use Rattle.qasm_scope.specs.Meaning.{first_fault, fault_after, gates_after, measures_after, most_calls, scope_after}
use Rattle.qasm_scope.specs.Scope.{Scope, bit_count, qubit_count}

-- the program has no fault, and the circuit is what it means; or this is its first fault
abbrev pub IsCircuitAnswer : List Placed → Result Elementary InlineError → Type 0
IsCircuitAnswer program (Ok circuit) =
    (first_fault most_calls program ≡ None) × (circuit.qubits ≡ qubit_count (scope_after [] program))
    × (circuit.gates ≡ gates_after [] program) × (circuit.bits ≡ bit_count (scope_after [] program))
    × (circuit.measured ≡ measures_after [] program)
IsCircuitAnswer program (Err (Fault cause at)) = first_fault most_calls program ≡ Some (cause, at)
IsCircuitAnswer program (Err NoMemory) = Unit {0}

-- Behind these statements, any others mean what they do from this scope, these measurements, so many calls and these
-- gates on.
pub record LeadsTo (program : List Placed) (scope : Scope) (measured : List Measure) (calls : ℕ)
    (gates : List ElementaryGate) : Type 0 where
  pub same_fault : (more : List Placed) → first_fault most_calls (program ++ more) ≡
      fault_after most_calls scope measured calls more
  pub same_scope : (more : List Placed) → scope_after [] (program ++ more) ≡ scope_after scope more
  pub same_gates : (more : List Placed) → gates_after [] (program ++ more) ≡ gates ++ gates_after scope more
  pub same_measures : (more : List Placed) → measures_after [] (program ++ more) ≡ measured ++ measures_after scope more

-- the names, the measurements and the gates that were called are those after these statements, which have no fault
pub record IsOpen (program : List Placed) (names : Names) (measured : Measured) (unrolled : Unrolled) : Type 0 where
  pub scope : Scope
  pub represents : Represents names scope
  pub remembers : Remembers measured
  pub leads : LeadsTo program scope measured.list unrolled.calls unrolled.gates
  pub knows : Knows scope unrolled

-- there is no statement yet, and nothing is declared
pub record IsEmpty (program : List Placed) (names : Names) (measured : Measured) (unrolled : Unrolled) : Type 0 where
  pub none : program ≡ []
  pub represents : Represents names []
  pub no_calls : unrolled.calls ≡ 0
  pub no_gates : unrolled.gates ≡ []
  pub no_known : unrolled.known.items ≡ []
  pub remembers : Remembers measured
  pub no_measures : measured.list ≡ []

-- What is kept at a stage is what these statements come to. A circuit that has stopped keeps the fault that comes first
-- whatever follows, or that memory ran out.
abbrev pub HasTakenAt : Stage → List Placed → Names → Measured → Unrolled → Type 0
HasTakenAt Empty program names measured unrolled = IsEmpty program names measured unrolled
HasTakenAt Open program names measured unrolled = IsOpen program names measured unrolled
HasTakenAt (Stopped (Fault cause at)) program names measured unrolled =
    (more : List Placed) → first_fault most_calls (program ++ more) ≡ Some (cause, at)
HasTakenAt (Stopped NoMemory) program names measured unrolled = Unit {0}

-- the circuit has taken in these statements, and remembers what names of theirs stand for
abbrev pub HasTaken : Circuit → List Placed → Type 0
HasTaken circuit program =
    HasTakenAt circuit.stage program circuit.names circuit.measured circuit.unrolled
    × IsRecent circuit.names.symbols circuit.recent

-- the declaration of this gate, at this place
abbrev pub gate_at : ℕ → GateForm → Placed
gate_at place form = record { place = place; sentence = DeclareGate form }

-- the application of a gate without angles, at this place
abbrev pub applied_at : ℕ → Callee → List Operand → Placed
applied_at place gate qubits =
    record { place = place; sentence = Act (Applied (record { gate = gate; angles = []; qubits = qubits })) }

-- Behind these statements a gate of this form so far is begun at this place. Where nothing is kept of it, the circuit
-- is that of whatever its form may be.
abbrev pub HasBegunAs : Option GateInProgress → Circuit → List Placed → ℕ → GateForm → Type 0
HasBegunAs (Some gate) circuit program place form =
    IsOpen program circuit.names circuit.measured circuit.unrolled × IsBegun circuit.names gate form
    × IsRecent circuit.names.symbols circuit.recent
HasBegunAs None circuit program place form = (any : GateForm) → HasTaken circuit (program ++ gate_at place any ∷ [])

-- the circuit has taken in these statements, and of a gate behind them the heading and what its body has so far
abbrev pub HasBegun : Circuit → OpenGate → List Placed → GateForm → Type 0
HasBegun circuit gate program form = HasBegunAs gate.kept circuit program gate.place form
