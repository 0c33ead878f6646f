-- What calls of kept gates come to: a private matter of the program. It is what calls by name come to.
use Rattle.std.specs.Prelude.{◌≡◌, ℕ, ◌+◌, ◌≤◌, ◌==◌, Bool, false, if◌then◌else◌, List, [], ◌∷◌, ◌++◌, length, map}
use Rattle.std.specs.Prelude.{reverse, take, drop, Option, None, Some, Result, Ok, Err, slice_get, slice_index_or}
use Rattle.zx_gates.specs.declared.elementary.ElementaryGate.{ElementaryGate}
use Rattle.zx_gates.specs.declared.elementary.ElementaryGate.TheVariants as elementary
use Rattle.qasm_angle.specs.declared.angle.Angle.{Angle}
use Rattle.qasm_angle.specs.Trees.{Tree}
use Rattle.qasm_angle.specs.Values.{value}
use Rattle.qasm_angle.specs.Sixteenths.{phase_of_angle}
use Rattle.qasm_scope.specs.declared.causes.Cause.{Cause}
use Rattle.qasm_names.specs.declared.gates.GateBody.{GateBody}
use Rattle.qasm_names.specs.declared.gates.GateCall.{GateCall}
use Rattle.qasm_names.specs.declared.gates.CalledGate.{CalledGate}
use Rattle.qasm_names.specs.declared.gates.CalledGate.TheVariants as called_gate
use Rattle.qasm_unroll.specs.declared.unroll.Frame.{Frame}
use Rattle.qasm_unroll.specs.declared.unroll.Heights.{Heights}
use Rattle.qasm_unroll.specs.declared.unroll.Unrolled.{Unrolled}
use Rattle.qasm_scope.specs.Meaning.{most_calls}
use Rattle.qasm_scope.specs.Angles.{in_prefix, with_cause}
use Rattle.qasm_names.specs.Kept.{gate_count}
use Rattle.qasm_scope.specs.Scope.{Scope, Meaning, Qubits, Bits, Gate}
use Rattle.qasm_scope.specs.Calls.{Event, Called, Undefined, Applied, expand_meaning, expand_declared, u_of}
use Rattle.qasm_scope.specs.Calls.{after_angles, applied, call_count, first_wrong}

-- the values of expressions in numbered parameters
abbrev pub values_of : List Tree → List Angle → Result (List Angle) Cause
values_of [] angles = Ok []
values_of (t ∷ ts) angles = in_prefix (with_cause (value t angles)) (values_of ts angles)

-- a gate by its number, with values for its angles, on qubits, at a depth
abbrev pub Numbered : Type 0
Numbered = ℕ → ℕ → List Angle → List ℕ → List Event

-- the built-in gates with their angles and qubits
abbrev pub u_events : List Angle → List ℕ → List Event
u_events (theta ∷ phi ∷ lambda ∷ []) (q ∷ []) =
    u_of q (phase_of_angle theta) (phase_of_angle phi) (phase_of_angle lambda)
u_events angles qubits = []

abbrev pub cx_events : List ℕ → List Event
cx_events (control ∷ target ∷ []) = Applied (elementary.Cx control target) ∷ []
cx_events qubits = []

abbrev pub expand_called : Numbered → CalledGate → ℕ → List Angle → List ℕ → List Event
expand_called numbered called_gate.U depth angles qubits = u_events angles qubits
expand_called numbered called_gate.Cx depth angles qubits = cx_events qubits
expand_called numbered (called_gate.Gate number) depth angles qubits = numbered number depth angles qubits

abbrev pub called_events : Numbered → CalledGate → ℕ → Result (List Angle) Cause → List ℕ → List Event
called_events numbered called depth angles qubits =
    Called depth ∷ after_angles angles (λ values. expand_called numbered called depth values qubits)

-- the qubits at these places
abbrev pub picked : List ℕ → List ℕ → List ℕ
picked qubits places = map (λ place. slice_index_or qubits place 0) places

-- a call in the body of a gate at a depth, and calls one after the other
abbrev pub call_events : Numbered → ℕ → List Angle → List ℕ → GateCall → List Event
call_events numbered depth angles qubits c =
    called_events numbered c.called (depth + 1) (values_of c.angles.items angles) (picked qubits c.qubits.items)

abbrev pub calls_events : Numbered → ℕ → List Angle → List ℕ → List GateCall → List Event
calls_events numbered depth angles qubits [] = []
calls_events numbered depth angles qubits (c ∷ calls) =
    call_events numbered depth angles qubits c ++ calls_events numbered depth angles qubits calls

abbrev pub calls_of : Option GateBody → List GateCall
calls_of None = []
calls_of (Some gate) = gate.calls.items

-- a gate on other qubits
abbrev pub renamed : (ℕ → ℕ) → ElementaryGate → ElementaryGate
renamed f (elementary.U q theta phi lambda) = elementary.U (f q) theta phi lambda
renamed f (elementary.Cx control target) = elementary.Cx (f control) (f target)

abbrev pub renamed_event : (ℕ → ℕ) → Event → Event
renamed_event f (Called depth) = Called depth
renamed_event f (Undefined cause) = Undefined cause
renamed_event f (Applied gate) = Applied (renamed f gate)

-- the later qubits stand in the same places as the ones before; where there is none, 0 stands for it
pub record AreRenamed (f : ℕ → ℕ) (qubits later : List ℕ) : Type 0 where
  pub none : f 0 ≡ 0
  pub each : (place : ℕ) → slice_index_or later place 0 ≡ f (slice_index_or qubits place 0)

-- each gate is its body, and comes to the same on other qubits
pub record Unrolls (gates : List GateBody) (numbered : Numbered) : Type 0 where
  pub each : (number depth : ℕ) (angles : List Angle) (qubits : List ℕ)
      → numbered number depth angles qubits ≡ calls_events numbered depth angles qubits
      (calls_of (slice_get gates number))
  pub by_places : (number depth : ℕ) (angles : List Angle) (f : ℕ → ℕ) (qubits later : List ℕ)
      → AreRenamed f qubits later
      → numbered number depth angles later ≡ map (renamed_event f) (numbered number depth angles qubits)

-- the calls of a gate on the stack that are left
abbrev pub calls_left : List GateBody → Frame → List GateCall
calls_left gates f = drop f.next (calls_of (slice_get gates f.gate))

-- What is left of the gates on the stack, the top one first: its angles and qubits lie on top of those of the others.
abbrev pub stack_events : Numbered → List GateBody → List Frame → List Angle → List ℕ → List Event
stack_events numbered gates [] angles qubits = []
stack_events numbered gates (f ∷ below) angles qubits =
    calls_events numbered (1 + length below)
    (drop f.base.angles angles) (drop f.base.qubits qubits) (calls_left gates f)
    ++ stack_events numbered gates below (take f.base.angles angles) (take f.base.qubits qubits)

-- the parts of the gates on the stack lie one behind the other, up to so many angles and qubits
abbrev pub AreStacked : List Frame → ℕ → ℕ → Type 0
AreStacked [] angles qubits = Unit {0}
AreStacked (f ∷ below) angles qubits =
    (f.base.angles ≤ angles) × (f.base.qubits ≤ qubits) × AreStacked below f.base.angles f.base.qubits

-- so they do, with the top one first, on the stacks as they are
abbrev pub IsStacked : List Frame → Unrolled → Type 0
IsStacked frames unrolled =
    AreStacked frames (length unrolled.angles.items) (length unrolled.qubits.items)

-- the gates on the stack, the top one first
abbrev pub frames_of : Unrolled → List Frame
frames_of unrolled = reverse unrolled.frames.items

-- what is left where these gates are on the stack, the top one first
abbrev pub left_events : List GateBody → List Frame → Unrolled → Numbered → List Event
left_events gates frames unrolled numbered =
    stack_events numbered gates frames unrolled.angles.items unrolled.qubits.items

-- what is left where a gate is called with all that lies above a base
abbrev pub entered_events : List GateBody → CalledGate → Heights → Unrolled → Numbered → List Event
entered_events gates called base unrolled numbered =
    expand_called numbered called (1 + length (frames_of unrolled))
    (drop base.angles unrolled.angles.items) (drop base.qubits unrolled.qubits.items)
    ++ stack_events numbered gates (frames_of unrolled)
    (take base.angles unrolled.angles.items) (take base.qubits unrolled.qubits.items)

-- what a gate comes to that is called with all that lies on the stacks
abbrev pub first_events : CalledGate → Unrolled → Numbered → List Event
first_events called unrolled numbered =
    expand_called numbered called 1 unrolled.angles.items unrolled.qubits.items

-- what lies on the stacks above a base begins where the gates on the stack end
pub record IsBase (base : Heights) (unrolled : Unrolled) : Type 0 where
  pub angles_within : base.angles ≤ length unrolled.angles.items
  pub qubits_within : base.qubits ≤ length unrolled.qubits.items
  pub stacked : AreStacked (frames_of unrolled) base.angles base.qubits

-- From so many calls and these gates the events lead to what the others lead to from there.
pub record Continues (most : ℕ) (calls : ℕ) (gates : List ElementaryGate) (events : List Event)
    (later_calls : ℕ) (later_gates : List ElementaryGate) (later_events : List Event) : Type 0 where
  pub same_wrong : first_wrong most calls events ≡ first_wrong most later_calls later_events
  pub same_gates : gates ++ applied events ≡ later_gates ++ applied later_events
  pub same_calls : calls + call_count events ≡ later_calls + call_count later_events

-- from what is unrolled the events lead to what the later ones lead to from there
abbrev pub ComesTo : Unrolled → List Event → Unrolled → List Event → Type 0
ComesTo unrolled events later later_events =
    Continues most_calls unrolled.calls unrolled.gates events later.calls later.gates later_events

-- so they do for each way to unroll calls by number in which each gate is its body
abbrev pub Leads : List GateBody → Unrolled → (Numbered → List Event)
    → Unrolled → (Numbered → List Event) → Type 0
Leads gates unrolled events later later_events = (numbered : Numbered) → Unrolls gates numbered
    → ComesTo unrolled (events numbered) later (later_events numbered)

-- what is wrong first in the events from what is unrolled on
abbrev pub wrong_from : Unrolled → List Event → Option Cause
wrong_from unrolled events = first_wrong most_calls unrolled.calls events

-- this is wrong first for each way to unroll calls by number in which each gate is its body
abbrev pub StopsAt : List GateBody → Unrolled → (Numbered → List Event) → Cause → Type 0
StopsAt gates unrolled events cause =
    (numbered : Numbered) → Unrolls gates numbered → wrong_from unrolled (events numbered) ≡ Some cause

-- nothing is left
abbrev pub no_events : Numbered → List Event
no_events numbered = []

-- values behind those that are there
abbrev pub followed : List Angle → Result (List Angle) Cause → Result (List Angle) Cause
followed done (Ok more) = Ok (done ++ more)
followed done (Err cause) = Err cause

-- a gate that acts
abbrev pub gate_events : Option ElementaryGate → List Event
gate_events None = []
gate_events (Some gate) = Applied gate ∷ []

-- the declaration is that of the gate of this number, after so many gates
abbrev pub is_numbered : ℕ → ℕ → Meaning → Bool
is_numbered number count (Gate form) = count == number
is_numbered number count (Qubits first size) = false
is_numbered number count (Bits first size) = false

abbrev pub expand_number : Scope → Numbered
expand_number [] number depth angles qubits = []
expand_number (declaration ∷ scope) number depth angles qubits =
    if is_numbered number (gate_count scope) declaration.meaning
    then expand_meaning (λ n d a q. expand_declared scope n d a q) declaration.meaning depth angles qubits
    else expand_number scope number depth angles qubits
