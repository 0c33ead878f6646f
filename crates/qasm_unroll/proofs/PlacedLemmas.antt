-- Calls of gates come to the same on other qubits, but for these.
use Rattle.std.proofs.Common.{◌≡◌, ℕ, zero, suc, ◌+◌, ◌≤◌, Bool, true, false, if◌then◌else◌, List, [], ◌∷◌, ◌++◌, map, slice_index_or, Option, None, Some, Result, Ok, Err, refl, sym, ap, ap₂, ◌∙◌, arith, nat_le, nat_lt}
use Rattle.std.specs.List.{flat_map}
use Rattle.std.specs.Str.{bytes_eq}
use Rattle.std.proofs.lemmas.List.{map-append}
use Rattle.std.proofs.lemmas.Bool.Decides.{nat_tests}
use Rattle.qasm_angle.specs.declared.angle.Angle.{Angle}
use Rattle.qasm_angle.specs.Sixteenths.{phase_of_angle}
use Rattle.qasm_reader.specs.Syntax.{Callee, Declared, U, Cx, GateForm, BodySentence, BodyApplied, BodyBarrier}
use Rattle.qasm_scope.specs.declared.causes.Cause.{Cause}
use Rattle.qasm_scope.specs.declared.causes.Cause.TheVariants.{TooDeep, TooManyGates}
use Rattle.qasm_scope.specs.Angles.{angles_of, place_of}
use Rattle.qasm_scope.specs.Calls.{Event, Called, Undefined, Applied, after_angles, applied, body_call, call_count, deepest, expand, expand_declared, expand_meaning, first_wrong, u_of}
use Rattle.qasm_scope.specs.Scope.{Scope, Meaning, Gate}
use Rattle.qasm_names.specs.Kept.{gate_count}
use Rattle.qasm_unroll.specs.Internal.KeptCalls.{AreRenamed, cx_events, expand_number, is_numbered, renamed, renamed_event, u_events}

-- ---- by renaming

abbrev pub by : (ℕ → ℕ) → List Event → List Event
by f events = map (renamed_event f) events

u_of-renamed : (f : ℕ → ℕ) (q : ℕ) (theta phi lambda : Option ℕ) → u_of (f q) theta phi lambda ≡ by f (u_of q theta phi lambda)
u_of-renamed f q (Some theta) (Some phi) (Some lambda) = refl
u_of-renamed f q _ _ _ = refl

u-renamed : (f : ℕ → ℕ) (angles : List Angle) (qubits : List ℕ) → u_events angles (map f qubits) ≡ by f (u_events angles qubits)
u-renamed f (theta ∷ phi ∷ lambda ∷ []) (q ∷ []) = u_of-renamed f q (phase_of_angle theta) (phase_of_angle phi) (phase_of_angle lambda)
u-renamed f _ _ = refl

cx-renamed : (f : ℕ → ℕ) (qubits : List ℕ) → cx_events (map f qubits) ≡ by f (cx_events qubits)
cx-renamed f (control ∷ target ∷ []) = refl
cx-renamed f _ = refl

index-renamed : (f : ℕ → ℕ) (qubits : List ℕ) (place : ℕ) → f 0 ≡ 0 → slice_index_or (map f qubits) place 0 ≡ f (slice_index_or qubits place 0)
index-renamed f [] place none = sym none
index-renamed f (q ∷ qubits) zero none = refl
index-renamed f (q ∷ qubits) (suc place) none = index-renamed f qubits place none

map-renames : (f : ℕ → ℕ) (qubits : List ℕ) → f 0 ≡ 0 → AreRenamed f qubits (map f qubits)
map-renames f qubits none = record { none = none; each = λ place. index-renamed f qubits place none }

-- the qubits of names
named-renamed : (f : ℕ → ℕ) (qubits later : List ℕ) (places names : List (List ℕ)) → AreRenamed f qubits later
    → map (λ name. slice_index_or later (place_of name places) 0) names ≡ map f (map (λ name. slice_index_or qubits (place_of name places) 0) names)
named-renamed f qubits later places [] h = refl
named-renamed f qubits later places (name ∷ names) h = ap₂ (λ q qs. q ∷ qs) (h.each (place_of name places)) (named-renamed f qubits later places names h)

-- each gate of the scope comes to the same
abbrev ByPlaces : Scope → Type 0
ByPlaces scope = (name : List ℕ) (depth : ℕ) (angles : List Angle) (f : ℕ → ℕ) (qubits later : List ℕ) → AreRenamed f qubits later
    → expand_declared scope name depth angles later ≡ by f (expand_declared scope name depth angles qubits)

expand-renamed : (scope : Scope) (gate : Callee) (depth : ℕ) (angles : List Angle) (f : ℕ → ℕ) (qubits : List ℕ) → ByPlaces scope → f 0 ≡ 0
    → expand (λ n d a q. expand_declared scope n d a q) gate depth angles (map f qubits) ≡ by f (expand (λ n d a q. expand_declared scope n d a q) gate depth angles qubits)
expand-renamed scope U depth angles f qubits h none = u-renamed f angles qubits
expand-renamed scope Cx depth angles f qubits h none = cx-renamed f qubits
expand-renamed scope (Declared name) depth angles f qubits h none = h name depth angles f qubits (map f qubits) (map-renames f qubits none)

after-renamed : (f : ℕ → ℕ) (r : Result (List Angle) Cause) (one other : List Angle → List Event) → ((values : List Angle) → one values ≡ by f (other values))
    → after_angles r one ≡ by f (after_angles r other)
after-renamed f (Err cause) one other h = refl
after-renamed f (Ok values) one other h = h values

body-renamed : (scope : Scope) (form : GateForm) (depth : ℕ) (angles : List Angle) (f : ℕ → ℕ) (qubits later : List ℕ) (body : List BodySentence) → ByPlaces scope → AreRenamed f qubits later
    → flat_map (body_call (λ n d a q. expand_declared scope n d a q) form depth angles later) body
    ≡ by f (flat_map (body_call (λ n d a q. expand_declared scope n d a q) form depth angles qubits) body)
body-renamed scope form depth angles f qubits later [] h same = refl
body-renamed scope form depth angles f qubits later (BodyBarrier names ∷ body) h same = body-renamed scope form depth angles f qubits later body h same
body-renamed scope form depth angles f qubits later (BodyApplied a ∷ body) h same =
    let named : List ℕ → List ℕ = λ qs. map (λ name. slice_index_or qs (place_of name form.qubits) 0) a.qubits in
    let one : List ℕ → List Event = λ qs. after_angles (angles_of form.parameters angles a.angles) (λ values. expand (λ n d a q. expand_declared scope n d a q) a.gate (depth + 1) values qs) in
    let rest : List ℕ → List Event = λ qs. flat_map (body_call (λ n d a q. expand_declared scope n d a q) form depth angles qs) body in
    ap₂ (λ es more. Called (depth + 1) ∷ (es ++ more))
    (ap one (named-renamed f qubits later form.qubits a.qubits same)
    ∙ after-renamed f (angles_of form.parameters angles a.angles) (λ values. expand (λ n d a q. expand_declared scope n d a q) a.gate (depth + 1) values (map f (named qubits)))
    (λ values. expand (λ n d a q. expand_declared scope n d a q) a.gate (depth + 1) values (named qubits)) (λ values. expand-renamed scope a.gate (depth + 1) values f (named qubits) h same.none))
    (body-renamed scope form depth angles f qubits later body h same)
    ∙ ap (λ es. Called (depth + 1) ∷ es) (sym (map-append (renamed_event f) (one (named qubits)) (rest qubits)))

meaning-renamed : (scope : Scope) (m : Meaning) (depth : ℕ) (angles : List Angle) (f : ℕ → ℕ) (qubits later : List ℕ) → ByPlaces scope → AreRenamed f qubits later
    → expand_meaning (λ n d a q. expand_declared scope n d a q) m depth angles later ≡ by f (expand_meaning (λ n d a q. expand_declared scope n d a q) m depth angles qubits)
meaning-renamed scope (Gate form) depth angles f qubits later h same = body-renamed scope form depth angles f qubits later form.body h same
meaning-renamed scope _ depth angles f qubits later h same = refl

if-renamed : (b : Bool) (f : ℕ → ℕ) (x y later more : List Event) → later ≡ by f x → more ≡ by f y → (if b then later else more) ≡ by f (if b then x else y)
if-renamed true f x y later more h k = h
if-renamed false f x y later more h k = k

declared-renamed : (scope : Scope) (name : List ℕ) (depth : ℕ) (angles : List Angle) (f : ℕ → ℕ) (qubits later : List ℕ) → AreRenamed f qubits later
    → expand_declared scope name depth angles later ≡ by f (expand_declared scope name depth angles qubits)
declared-renamed [] name depth angles f qubits later same = refl
declared-renamed (d ∷ scope) name depth angles f qubits later same =
    if-renamed (bytes_eq d.name name) f _ _ _ _
    (meaning-renamed scope d.meaning depth angles f qubits later (λ n deep values g qs more e. declared-renamed scope n deep values g qs more e) same)
    (declared-renamed scope name depth angles f qubits later same)

pub number-renamed : (scope : Scope) (number depth : ℕ) (angles : List Angle) (f : ℕ → ℕ) (qubits later : List ℕ) → AreRenamed f qubits later
    → expand_number scope number depth angles later ≡ by f (expand_number scope number depth angles qubits)
number-renamed [] number depth angles f qubits later same = refl
number-renamed (d ∷ scope) number depth angles f qubits later same =
    if-renamed (is_numbered number (gate_count scope) d.meaning) f _ _ _ _ (meaning-renamed scope d.meaning depth angles f qubits later (λ n deep values g qs more e. declared-renamed scope n deep values g qs more e) same)
    (number-renamed scope number depth angles f qubits later same)

-- ---- what renaming keeps

pub applied-renamed : (f : ℕ → ℕ) (events : List Event) → applied (by f events) ≡ map (renamed f) (applied events)
applied-renamed f [] = refl
applied-renamed f (Called depth ∷ events) = applied-renamed f events
applied-renamed f (Undefined cause ∷ events) = applied-renamed f events
applied-renamed f (Applied gate ∷ events) = ap (λ gates. renamed f gate ∷ gates) (applied-renamed f events)

pub count-renamed : (f : ℕ → ℕ) (events : List Event) → call_count (by f events) ≡ call_count events
count-renamed f [] = refl
count-renamed f (Called depth ∷ events) = ap (λ n. n + 1) (count-renamed f events)
count-renamed f (Undefined cause ∷ events) = count-renamed f events
count-renamed f (Applied gate ∷ events) = count-renamed f events

pub wrong-renamed : (most calls : ℕ) (f : ℕ → ℕ) (events : List Event) → first_wrong most calls (by f events) ≡ first_wrong most calls events
wrong-renamed most calls f (Called depth ∷ events) =
    ap (λ o. if nat_le most calls then Some TooManyGates else if nat_lt deepest depth then Some TooDeep else o) (wrong-renamed most (calls + 1) f events)
wrong-renamed most calls f (Applied gate ∷ events) = wrong-renamed most calls f events
wrong-renamed most calls f _ = refl

-- ---- faults and the calls before

called-later : (many deep fewer : Bool) (all later : Option Cause) → (if many then Some TooManyGates else (if deep then Some TooDeep else all)) ≡ None → fewer ≡ false
    → (all ≡ None → later ≡ None) → (if fewer then Some TooManyGates else (if deep then Some TooDeep else later)) ≡ None
called-later false false false all later h e k = k h
called-later _ _ _ all later h e k = absurd (cc)

-- events that have no fault have none where the calls are within the most
pub faultless-elsewhere : (most calls before : ℕ) (events : List Event) → first_wrong most calls events ≡ None → before + call_count events ≤ most → first_wrong most before events ≡ None
faultless-elsewhere most calls before [] h few = refl
faultless-elsewhere most calls before (Undefined cause ∷ events) h few = absurd (cc)
faultless-elsewhere most calls before (Applied gate ∷ events) h few = faultless-elsewhere most calls before events h few
faultless-elsewhere most calls before (Called depth ∷ events) h few =
    let within : nat_le most before ≡ false = let k : before + (call_count events + 1) ≤ most = few in grind (arith, nat_tests) in
    let fewer : (before + 1) + call_count events ≤ most = let k : before + (call_count events + 1) ≤ most = few in omega arith in
    called-later (nat_le most calls) (nat_lt deepest depth) (nat_le most before) (first_wrong most (calls + 1) events) (first_wrong most (before + 1) events) h within
    (λ right. faultless-elsewhere most (calls + 1) (before + 1) events right fewer)
