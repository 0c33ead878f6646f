-- Events one after the other.
use Rattle.std.proofs.Common.{◌≡◌, ℕ, ◌+◌, Bool, false, if◌then◌else◌, List, [], ◌∷◌, ◌++◌, map, Option, Some, nat_le, nat_lt, refl, sym, ap, ◌∙◌, append_assoc, append-nil, add-zero, arith}
use Rattle.zx_gates.specs.declared.elementary.ElementaryGate.{ElementaryGate}
use Rattle.qasm_scope.specs.declared.causes.Cause.{Cause}
use Rattle.qasm_scope.specs.declared.causes.Cause.TheVariants.{TooDeep, TooManyGates}
use Rattle.qasm_scope.specs.Calls.{Event, Called, Undefined, Applied, applied, call_count, deepest, first_wrong}
use Rattle.std.specs.List.{flat_map}
use Rattle.std.specs.Option.{option_or}
use Rattle.qasm_reader.specs.Syntax.{Apply}
use Rattle.qasm_scope.specs.Angles.{angles_of, numbered, places_among}
use Rattle.qasm_scope.specs.Applications.{application_events, instances, ranges_of}
use Rattle.qasm_scope.specs.Faults.{is_no_gate, shape_of}
use Rattle.qasm_names.specs.Kept.{called_for, kept_names}
use Rattle.qasm_unroll.specs.Internal.KeptCalls.{expand_number}
use Rattle.qasm_unroll.specs.Internal.KeptCalls.{Continues, called_events, values_of}
use Rattle.qasm_scope.specs.Scope.{Scope, lookup_in}
use Rattle.qasm_unroll.proofs.Keeping.{call-same, Agrees-itself, numbered-angles}
use Rattle.qasm_unroll.proofs.Unrolling.{Continues-join}

pub applied-append : (a b : List Event) → applied (a ++ b) ≡ applied a ++ applied b
applied-append [] b = refl
applied-append (Called depth ∷ a) b = applied-append a b
applied-append (Undefined cause ∷ a) b = applied-append a b
applied-append (Applied gate ∷ a) b = ap (λ gates. gate ∷ gates) (applied-append a b)

pub call_count-append : (a b : List Event) → call_count (a ++ b) ≡ call_count a + call_count b
call_count-append [] b = omega arith
call_count-append (Called depth ∷ a) b = omega (arith, call_count-append a b)
call_count-append (Undefined cause ∷ a) b = call_count-append a b
call_count-append (Applied gate ∷ a) b = call_count-append a b

called-at : (many deep : Bool) (first second : Option Cause) (all : Option Cause) → all ≡ option_or first second
    → (if many then Some TooManyGates else (if deep then Some TooDeep else all))
    ≡ option_or (if many then Some TooManyGates else (if deep then Some TooDeep else first)) second
called-at false false first second all h = h
called-at _ _ first second all h = refl

-- what is wrong first among events is wrong first in the prefix, or else after it
pub first_wrong-append : (most calls : ℕ) (a b : List Event) → first_wrong most calls (a ++ b) ≡ option_or (first_wrong most calls a) (first_wrong most (calls + call_count a) b)
first_wrong-append most calls [] b = ap (λ n. first_wrong most n b) (sym (add-zero calls))
first_wrong-append most calls (Undefined cause ∷ a) b = refl
first_wrong-append most calls (Applied gate ∷ a) b = first_wrong-append most calls a b
first_wrong-append most calls (Called depth ∷ a) b =
    let same : (calls + 1) + call_count a ≡ calls + (call_count a + 1) = omega arith in
    called-at (nat_le most calls) (nat_lt deepest depth) (first_wrong most (calls + 1) a) (first_wrong most (calls + (call_count a + 1)) b) (first_wrong most (calls + 1) (a ++ b))
    (first_wrong-append most (calls + 1) a b ∙ ap (λ n. option_or (first_wrong most (calls + 1) a) (first_wrong most n b)) same)

-- events that are done, and others after them
pub Continues-before : (most calls : ℕ) (gates : List ElementaryGate) (a : List Event) (later : ℕ) (more : List ElementaryGate) (b : List Event)
    → Continues most calls gates a later more [] → Continues most calls gates (a ++ b) later more b
Continues-before most calls gates a later more b h =
    let count : calls + call_count a ≡ later = h.same_calls ∙ add-zero later in
    record {
      same_wrong = first_wrong-append most calls a b ∙ ap (λ o. option_or o (first_wrong most (calls + call_count a) b)) h.same_wrong ∙ ap (λ n. first_wrong most n b) count;
      same_gates = ap (λ gs. gates ++ gs) (applied-append a b) ∙ sym (append_assoc gates (applied a) (applied b)) ∙ ap (λ gs. gs ++ applied b) (h.same_gates ∙ append-nil more);
      same_calls = ap (λ n. calls + n) (call_count-append a b) ∙ omega (arith, count);
    }

pub flat_map-same : {A B : Type 0} (f g : A → List B) (xs : List A) → ((x : A) → f x ≡ g x) → flat_map f xs ≡ flat_map g xs
flat_map-same f g [] h = refl
flat_map-same f g (x ∷ xs) h = ap (λ ys. ys ++ flat_map f xs) (h x) ∙ ap (λ ys. g x ++ ys) (flat_map-same f g xs h)

-- an application in a statement comes to calls of kept gates
pub application-numbered : (scope : Scope) (a : Apply) → is_no_gate (shape_of (lookup_in scope) a.gate) ≡ false
    → application_events scope a ≡ flat_map (called_events (expand_number scope) (called_for (kept_names scope) a.gate) 1 (values_of (map (numbered (places_among [])) a.angles) [])) (instances (ranges_of (lookup_in scope) a.qubits))
application-numbered scope a h =
    flat_map-same _ _ (instances (ranges_of (lookup_in scope) a.qubits)) (λ qubits.
    call-same (expand_number scope) scope a.gate 1 (angles_of [] [] a.angles) qubits (Agrees-itself scope) h
    ∙ ap (λ v. called_events (expand_number scope) (called_for (kept_names scope) a.gate) 1 v qubits) (numbered-angles [] [] a.angles))

-- an instance that is done, and those after it
pub Continues-next : (most a : ℕ) (first : List ElementaryGate) (all : List Event) (b : ℕ) (second : List ElementaryGate) (e rest : List Event) (c : ℕ) (third : List ElementaryGate)
    → Continues most a first all b second (e ++ rest) → Continues most b second e c third [] → Continues most a first all c third rest
Continues-next most a first all b second e rest c third h k =
    Continues-join most a first all b second (e ++ rest) c third rest h (Continues-before most b second e c third rest k)
