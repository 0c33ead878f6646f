-- What a call of a gate comes to: the calls in it and the built-in gates, in the order in which they are made.
-- Cross, Bishop, Smolin and Gambetta, "Open quantum assembly language" (arXiv 1707.03429), on gate declarations.
use Rattle.std.specs.Prelude.{ℕ, ◌+◌, if◌then◌else◌, List, [], ◌∷◌, map, Option, None, Some, Result, Ok, Err}
use Rattle.std.specs.Prelude.{slice_index_or, nat_le, nat_lt}
use Rattle.std.specs.List.{flat_map}
use Rattle.std.specs.Str.{bytes_eq}
use Rattle.zx_gates.specs.declared.elementary.ElementaryGate.{ElementaryGate}
use Rattle.zx_gates.specs.declared.elementary.ElementaryGate.TheVariants as elementary
use Rattle.qasm_angle.specs.declared.angle.Angle.{Angle}
use Rattle.qasm_angle.specs.Sixteenths.{phase_of_angle}
use Rattle.qasm_reader.specs.Syntax.{Callee, Declared, U, Cx, GateForm, BodySentence, BodyApplied, BodyBarrier}
use Rattle.qasm_scope.specs.declared.causes.Cause.{Cause}
use Rattle.qasm_scope.specs.declared.causes.Cause.TheVariants.{NotSixteenthTurn, TooDeep, TooManyGates}
use Rattle.qasm_scope.specs.Angles.{angles_of, place_of}
use Rattle.qasm_scope.specs.Scope.{Scope, Meaning, Gate}

-- what comes about in a call
pub data Event : Type 0 where
  -- a call, at its depth; the application in a statement has depth 1
  Called : ℕ → Event
  -- an angle that has no value
  Undefined : Cause → Event
  -- a built-in gate acts
  Applied : ElementaryGate → Event

-- U acts where its three angles are whole sixteenth turns
abbrev pub u_of : ℕ → Option ℕ → Option ℕ → Option ℕ → List Event
u_of q (Some theta) (Some phi) (Some lambda) = Applied (elementary.U q theta phi lambda) ∷ []
u_of q theta phi lambda = Undefined NotSixteenthTurn ∷ []

-- a gate with values for its angles, on qubits, at a depth
abbrev pub Expansion : Type 0
Expansion = List ℕ → ℕ → List Angle → List ℕ → List Event

-- the same for a gate that may be built in, which comes to nothing with other numbers of angles or qubits than it has
abbrev pub expand : Expansion → Callee → ℕ → List Angle → List ℕ → List Event
expand declared (Declared name) depth angles qubits = declared name depth angles qubits
expand declared U depth (theta ∷ phi ∷ lambda ∷ []) (q ∷ []) =
    u_of q (phase_of_angle theta) (phase_of_angle phi) (phase_of_angle lambda)
expand declared Cx depth angles (control ∷ target ∷ []) = Applied (elementary.Cx control target) ∷ []
expand declared gate depth angles qubits = []

-- what comes about once the angles are evaluated
abbrev pub after_angles : Result (List Angle) Cause → (List Angle → List Event) → List Event
after_angles (Err cause) expansion = Undefined cause ∷ []
after_angles (Ok angles) expansion = expansion angles

-- A call: it is made, its angles are evaluated from left to right, and the gate is expanded.
abbrev pub call : Expansion → Callee → ℕ → Result (List Angle) Cause → List ℕ → List Event
call declared gate depth angles qubits =
    Called depth ∷ after_angles angles (λ values. expand declared gate depth values qubits)

-- A statement of a body: its names stand for the angles and qubits with which the gate was called.
abbrev pub body_call : Expansion → GateForm → ℕ → List Angle → List ℕ → BodySentence → List Event
body_call declared form depth angles qubits (BodyApplied a) =
    call declared a.gate (depth + 1) (angles_of form.parameters angles a.angles)
    (map (λ name. slice_index_or qubits (place_of name form.qubits) 0) a.qubits)
body_call declared form depth angles qubits (BodyBarrier names) = []

abbrev pub expand_meaning : Expansion → Meaning → ℕ → List Angle → List ℕ → List Event
expand_meaning declared (Gate form) depth angles qubits =
    flat_map (body_call declared form depth angles qubits) form.body
expand_meaning declared meaning depth angles qubits = []

-- A declared gate is its body, in the scope that stood before its declaration.
abbrev pub expand_declared : Scope → Expansion
expand_declared [] name depth angles qubits = []
expand_declared (declaration ∷ scope) name depth angles qubits =
    if bytes_eq declaration.name name
    then expand_meaning (λ n d a q. expand_declared scope n d a q) declaration.meaning depth angles qubits
    else expand_declared scope name depth angles qubits

-- the built-in gates that act
abbrev pub applied : List Event → List ElementaryGate
applied [] = []
applied (Applied gate ∷ events) = gate ∷ applied events
applied (event ∷ events) = applied events

-- how many calls there are
abbrev pub call_count : List Event → ℕ
call_count [] = 0
call_count (Called depth ∷ events) = call_count events + 1
call_count (event ∷ events) = call_count events

-- the deepest that calls may be nested
abbrev pub deepest : ℕ
deepest = 256

-- What is wrong first, where so many calls were made before and at most so many may be made: a call is counted, then
-- its depth is looked at, then its angles are evaluated.
abbrev pub first_wrong : ℕ → ℕ → List Event → Option Cause
first_wrong most calls [] = None
first_wrong most calls (Called depth ∷ events) =
    if nat_le most calls then Some TooManyGates else
    if nat_lt deepest depth then Some TooDeep else first_wrong most (calls + 1) events
first_wrong most calls (Undefined cause ∷ events) = Some cause
first_wrong most calls (Applied gate ∷ events) = first_wrong most calls events
