-- The unrolling of calls with a stack.
use Rattle.std.proofs.Common.{◌≡◌, ℕ, suc, ◌+◌, ◌<◌, List, [], ◌∷◌, ◌++◌, length, reverse, get_or, take, drop, drop-cons, add-one, Some, Ok, refl, sym, ap, ◌∙◌, append_assoc, append-nil, arith}
use Rattle.std.proofs.Math.Seq.{drop-append_seam, take-append_seam}
use Rattle.std.proofs.lemmas.List.{reverse-append, length-reverse}
use Rattle.zx_gates.specs.declared.elementary.ElementaryGate.{ElementaryGate}
use Rattle.qasm_angle.specs.declared.angle.Angle.{Angle}
use Rattle.qasm_angle.specs.Trees.{Tree}
use Rattle.qasm_scope.specs.declared.causes.Cause.{Cause}
use Rattle.qasm_names.specs.declared.gates.GateCall.{GateCall}
use Rattle.qasm_unroll.specs.declared.unroll.Frame.{Frame}
use Rattle.qasm_unroll.specs.declared.unroll.Unrolled.{Unrolled}
use Rattle.qasm_scope.specs.Calls.{Event, Called, after_angles, applied, call_count, first_wrong}
use Rattle.qasm_names.specs.declared.gates.GateBody.{GateBody}
use Rattle.qasm_names.specs.declared.gates.CalledGate.{CalledGate}
use Rattle.qasm_unroll.specs.Internal.KeptCalls.{Numbered, Continues, calls_left, calls_events, stack_events, expand_called, called_events, values_of, picked, frames_of, first_events, entered_events, left_events, followed}
use Rattle.qasm_unroll.proofs.StackLemmas.{followed-values}

-- a gate that comes on top
pub frames-push : (frames later : List Frame) (f : Frame) → later ≡ frames ++ f ∷ [] → reverse later ≡ f ∷ reverse frames
frames-push frames later f e = ap reverse e ∙ reverse-append frames (f ∷ [])

-- equal events lead to the same
pub Continues-same : (most calls : ℕ) (gates : List ElementaryGate) (events later : List Event) → events ≡ later
    → Continues most calls gates events calls gates later
Continues-same most calls gates events later e = record {
  same_wrong = ap (first_wrong most calls) e;
  same_gates = ap (λ es. gates ++ applied es) e;
  same_calls = ap (λ es. calls + call_count es) e;
}

-- a call is counted first
pub Continues-counted : (most a : ℕ) (gates : List ElementaryGate) (d : List Event) (depth b : ℕ) (counted : List ElementaryGate) (e : List Event)
    (c : ℕ) (third : List ElementaryGate) (f : List Event) → d ≡ Called depth ∷ e → ((events : List Event) → first_wrong most a (Called depth ∷ events) ≡ first_wrong most b events) → b ≡ a + 1 → counted ≡ gates
    → Continues most b counted e c third f → Continues most a gates d c third f
Continues-counted most a gates d depth b counted e c third f ed ew eb eg k = record {
  same_wrong = ap (first_wrong most a) ed ∙ ew e ∙ k.same_wrong;
  same_gates = ap (λ es. gates ++ applied es) ed ∙ ap (λ gs. gs ++ applied e) (sym eg) ∙ k.same_gates;
  same_calls = ap (λ es. a + call_count es) ed ∙ (omega arith) ∙ ap (λ n. n + call_count e) (sym eb) ∙ k.same_calls;
}

pub wrong-counted : (most a : ℕ) (d : List Event) (depth b : ℕ) (e : List Event) (cause : Cause) → d ≡ Called depth ∷ e
    → ((events : List Event) → first_wrong most a (Called depth ∷ events) ≡ first_wrong most b events) → first_wrong most b e ≡ Some cause → first_wrong most a d ≡ Some cause
wrong-counted most a d depth b e cause ed ew k = ap (first_wrong most a) ed ∙ ew e ∙ k

pub Continues-join : (most a : ℕ) (first : List ElementaryGate) (d : List Event) (b : ℕ) (second : List ElementaryGate) (e : List Event)
    (c : ℕ) (third : List ElementaryGate) (f : List Event) → Continues most a first d b second e → Continues most b second e c third f → Continues most a first d c third f
Continues-join most a first d b second e c third f h k = record {
  same_wrong = h.same_wrong ∙ k.same_wrong;
  same_gates = h.same_gates ∙ k.same_gates;
  same_calls = h.same_calls ∙ k.same_calls;
}

-- the gate after its next call
abbrev pub after_call : Frame → Frame
after_call f = record f { next = f.next + 1 }

pub split-call : (calls : List GateCall) (i : ℕ) (call : GateCall) → i < length calls → call ≡ get_or calls i call → drop i calls ≡ call ∷ drop (i + 1) calls
split-call calls i call h e = drop-cons calls i call h ∙ ap (λ c. c ∷ drop (suc i) calls) (sym e) ∙ ap (λ n. call ∷ drop n calls) (sym (add-one i))

-- the next call in the body of the gate on top
next_made : (numbered : Numbered) (gates : List GateBody) (deep : ℕ) (below : List Frame) (f : Frame) (angles values : List Angle) (qubits : List ℕ) (call : GateCall)
    → deep ≡ length below + 2 → calls_left gates f ≡ call ∷ calls_left gates (after_call f) → values_of call.angles.items (drop f.base.angles angles) ≡ Ok values
    → stack_events numbered gates (f ∷ below) angles qubits
    ≡ Called deep ∷ (expand_called numbered call.called (1 + length (after_call f ∷ below)) values (picked (drop f.base.qubits qubits) call.qubits.items)
    ++ stack_events numbered gates (after_call f ∷ below) angles qubits)
next_made numbered gates deep below f angles values qubits call ed ec ev =
    let own = drop f.base.angles angles in
    let places = picked (drop f.base.qubits qubits) call.qubits.items in
    let more = calls_events numbered (1 + length below) own (drop f.base.qubits qubits) (calls_left gates (after_call f)) in
    let rest = stack_events numbered gates below (take f.base.angles angles) (take f.base.qubits qubits) in
    let depth : (1 + length below) + 1 ≡ deep = omega arith in
    let deeper : deep ≡ 1 + length (after_call f ∷ below) = omega arith in
    ap (λ cs. calls_events numbered (1 + length below) own (drop f.base.qubits qubits) cs ++ rest) ec
    ∙ ap (λ vs. (called_events numbered call.called ((1 + length below) + 1) vs places ++ more) ++ rest) ev
    ∙ ap (λ events. Called ((1 + length below) + 1) ∷ events) (append_assoc (expand_called numbered call.called ((1 + length below) + 1) values places) more rest)
    ∙ ap (λ d. Called d ∷ (expand_called numbered call.called d values places ++ (more ++ rest))) depth
    ∙ ap (λ d. Called deep ∷ (expand_called numbered call.called d values places ++ (more ++ rest))) deeper

pub next_call : (numbered : Numbered) (gates : List GateBody) (deep height qubit_height : ℕ) (first counted : Unrolled) (f : Frame) (later : List Frame) (angles : List Angle) (qubits : List ℕ) (call : GateCall)
    → counted ≡ record first { calls = counted.calls } → deep ≡ length counted.frames.items + 2 → height ≡ length counted.angles.items → qubit_height ≡ length counted.qubits.items
    → calls_left gates f ≡ call ∷ calls_left gates (after_call f) → later ≡ counted.frames.items ++ after_call f ∷ []
    → followed counted.angles.items (values_of call.angles.items (drop f.base.angles counted.angles.items)) ≡ Ok angles
    → qubits ≡ counted.qubits.items ++ picked (drop f.base.qubits counted.qubits.items) call.qubits.items
    → left_events gates (f ∷ frames_of first) first numbered
    ≡ Called deep ∷ (expand_called numbered call.called (1 + length (reverse later)) (drop height angles) (drop qubit_height qubits)
    ++ stack_events numbered gates (reverse later) (take height angles) (take qubit_height qubits))
next_call numbered gates deep height qubit_height first counted f later angles qubits call eu ed eh ek ec el ev eq =
    let v = followed-values counted.angles.items angles (values_of call.angles.items (drop f.base.angles counted.angles.items)) ev in
    let places = picked (drop f.base.qubits counted.qubits.items) call.qubits.items in
    let depth : deep ≡ length (frames_of counted) + 2 = omega (arith, length-reverse counted.frames.items) in
    let frames : reverse later ≡ after_call f ∷ frames_of counted = frames-push counted.frames.items later (after_call f) el in
    let values : drop height angles ≡ v.0 = ap (drop height) v.2 ∙ ap (λ n. drop n (counted.angles.items ++ v.0)) eh ∙ drop-append_seam counted.angles.items v.0 in
    let below : take height angles ≡ counted.angles.items = ap (take height) v.2 ∙ ap (λ n. take n (counted.angles.items ++ v.0)) eh ∙ take-append_seam counted.angles.items v.0 in
    let on_top : drop qubit_height qubits ≡ places = ap (drop qubit_height) eq ∙ ap (λ n. drop n (counted.qubits.items ++ places)) ek ∙ drop-append_seam counted.qubits.items places in
    let beneath : take qubit_height qubits ≡ counted.qubits.items = ap (take qubit_height) eq ∙ ap (λ n. take n (counted.qubits.items ++ places)) ek ∙ take-append_seam counted.qubits.items places in
    ap (λ u. left_events gates (f ∷ frames_of u) u numbered) (sym eu)
    ∙ next_made numbered gates deep (frames_of counted) f counted.angles.items v.0 counted.qubits.items call depth ec v.1
    ∙ rw (frames, values, below, on_top, beneath) refl

-- a call is made first
pub next_call_first : (numbered : Numbered) (gates : List GateBody) (deep : ℕ) (below : List Frame) (f : Frame) (angles : List Angle) (qubits : List ℕ) (call : GateCall)
    → deep ≡ length below + 2 → calls_left gates f ≡ call ∷ calls_left gates (after_call f)
    → (events : List Event) × (stack_events numbered gates (f ∷ below) angles qubits ≡ Called deep ∷ events)
next_call_first numbered gates deep below f angles qubits call ed ec =
    let depth : (1 + length below) + 1 ≡ deep = omega arith in
    let rest = stack_events numbered gates below (take f.base.angles angles) (take f.base.qubits qubits) in
    let after = (after_angles (values_of call.angles.items (drop f.base.angles angles))
    (λ values. expand_called numbered call.called ((1 + length below) + 1) values (picked (drop f.base.qubits qubits) call.qubits.items))
    ++ calls_events numbered (1 + length below) (drop f.base.angles angles) (drop f.base.qubits qubits) (calls_left gates (after_call f))) ++ rest in (
      after,
      ap (λ cs. calls_events numbered (1 + length below) (drop f.base.angles angles) (drop f.base.qubits qubits) cs ++ rest) ec
          ∙ ap (λ d. Called d ∷ after) depth,
    )

-- with no gate on the stack
pub first-entered : (numbered : Numbered) (gates : List GateBody) (called : CalledGate) (unrolled : Unrolled) → unrolled.frames.items ≡ []
    → first_events called unrolled numbered ≡ entered_events gates called (record { angles = 0; qubits = 0 }) unrolled numbered
first-entered numbered gates called unrolled e =
    sym (append-nil (first_events called unrolled numbered))
    ∙ ap (λ frames. expand_called numbered called (1 + length (reverse frames)) unrolled.angles.items unrolled.qubits.items
    ++ stack_events numbered gates (reverse frames) (take 0 unrolled.angles.items) (take 0 unrolled.qubits.items)) (sym e)

-- a call with angles and qubits that are pushed onto empty stacks
pub instance-called : (numbered : Numbered) (called : CalledGate) (expressions : List Tree) (no_angles angles : List Angle) (no_qubits places qubits : List ℕ) → no_angles ≡ [] → no_qubits ≡ []
    → followed no_angles (values_of expressions no_angles) ≡ Ok angles → qubits ≡ no_qubits ++ places
    → called_events numbered called 1 (values_of expressions []) places ≡ Called 1 ∷ expand_called numbered called 1 angles qubits
instance-called numbered called expressions no_angles angles no_qubits places qubits ea eq ev ep =
    let v = followed-values no_angles angles (values_of expressions no_angles) ev in
    let values : values_of expressions [] ≡ Ok angles = ap (values_of expressions) (sym ea) ∙ v.1 ∙ ap Ok (sym (v.2 ∙ ap (λ none. none ++ v.0) ea)) in
    let on_top : places ≡ qubits = sym (ep ∙ ap (λ none. none ++ places) eq) in
    ap (λ vs. called_events numbered called 1 vs places) values ∙ ap (λ ps. Called 1 ∷ expand_called numbered called 1 angles ps) on_top
