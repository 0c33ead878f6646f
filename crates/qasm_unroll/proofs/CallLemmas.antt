-- The gates of a call act on the qubits of the call, which are below a number and differ.
use Rattle.std.proofs.Common.{◌≡◌, ℕ, suc, ◌+◌, ◌<◌, ◌==◌, Bool, true, false, ◌||◌, not, if◌then◌else◌, List, [], ◌∷◌, ◌++◌, length, map, slice_index_or, Option, None, Some, Result, Ok, Err, refl, sym, ap, subst, ◌∙◌, arith}
use Rattle.std.specs.List.{flat_map, list_any, position_from}
use Rattle.std.specs.Option.{is_some}
use Rattle.std.specs.Str.{bytes_eq}
use Rattle.std.proofs.Math.Nat.{zero-add}
use Rattle.std.proofs.lemmas.Bool.{not-false, or_from, or_right}
use Rattle.std.proofs.lemmas.Bool.Decides.{nat_tests}
use Rattle.std.proofs.lemmas.Iterator.Adapters.{position_from-zero}
use Rattle.std.proofs.lemmas.List.{length-map}
use Rattle.std.proofs.lemmas.Slice.Eq.{bytes_eq-Decides}
use Rattle.zx_gates.specs.Elementary.{IsElementaryGateOn}
use Rattle.qasm_angle.specs.declared.angle.Angle.{Angle}
use Rattle.qasm_angle.specs.Sixteenths.{phase_of_angle}
use Rattle.qasm_reader.specs.Syntax.{Callee, Declared, U, Cx, GateForm, BodySentence, BodyApplied, BodyBarrier}
use Rattle.qasm_scope.specs.declared.causes.Cause.{Cause}
use Rattle.qasm_scope.specs.Angles.{angles_of, place_of, place_or_zero, places_among}
use Rattle.qasm_scope.specs.Applications.{has_twice}
use Rattle.qasm_scope.specs.Calls.{Event, applied, u_of, expand, call, body_call, expand_meaning, expand_declared}
use Rattle.qasm_scope.specs.Faults.{shape_of, is_no_gate, has_other_shape, is_hidden, has_other_name, body_has_unknown, body_has_wrong_count, body_has_same_qubit, is_other}
use Rattle.qasm_names.specs.Kept.{IsSound, IsSoundMeaning}
use Rattle.qasm_scope.specs.Scope.{Scope, Meaning, Gate, meaning_of, lookup_in, shape_in}
use Rattle.qasm_unroll.proofs.EventLemmas.{applied-append}
use Rattle.qasm_unroll.specs.Internal.KeptCalls.{u_events, cx_events}
use Rattle.qasm_names.proofs.Formulas.{is_some-place}
use Rattle.qasm_names.proofs.Tests.{or-first, or-second, same_number}

-- P holds of each element, by the list
abbrev pub Each : {A : Type 0} → (A → Type 0) → List A → Type 0
Each P [] = Unit {0}
Each P (x ∷ xs) = P x × Each P xs

pub Each-append : {A : Type 0} (P : A → Type 0) (xs ys : List A) → Each P xs → Each P ys → Each P (xs ++ ys)
Each-append P [] ys h k = k
Each-append P (x ∷ xs) ys h k = (h.0, Each-append P xs ys h.1 k)

-- the gates that act act on qubits below the number
abbrev pub ActsOn : ℕ → List Event → Type 0
ActsOn limit events = Each (IsElementaryGateOn limit) (applied events)

pub ActsOn-append : (limit : ℕ) (a b : List Event) → ActsOn limit a → ActsOn limit b → ActsOn limit (a ++ b)
ActsOn-append limit a b h k =
    subst (Each (IsElementaryGateOn limit)) (sym (applied-append a b)) (Each-append (IsElementaryGateOn limit) (applied a) (applied b) h k)

pub ActsOn-flat_map : {A : Type 0} (limit : ℕ) (f : A → List Event) (xs : List A) → Each (λ x. ActsOn limit (f x)) xs → ActsOn limit (flat_map f xs)
ActsOn-flat_map limit f [] h = tt
ActsOn-flat_map limit f (x ∷ xs) h = ActsOn-append limit (f x) (flat_map f xs) h.0 (ActsOn-flat_map limit f xs h.1)

-- qubits below a number that differ
pub record AreArguments (limit : ℕ) (qubits : List ℕ) : Type 0 where
  pub below : Each (λ q. q < limit) qubits
  pub distinct : has_twice ◌==◌ qubits ≡ false

-- ---- the qubits that the names in a body stand for

-- the element in the place of the first one that passes
abbrev place : {A : Type 0} → (A → Bool) → List A → ℕ
place p [] = 0
place p (n ∷ ns) = if p n then 0 else suc (place p ns)

abbrev chosen : {A : Type 0} → (A → Bool) → List A → List ℕ → ℕ
chosen p [] qs = 0
chosen p (n ∷ ns) [] = 0
chosen p (n ∷ ns) (q ∷ qs) = if p n then q else chosen p ns qs

place-at : (b any : Bool) (i r : ℕ) (o : Option ℕ) → (b || any) ≡ true → (any ≡ true → o ≡ Some ((i + 1) + r))
    → (if b then Some i else o) ≡ Some (i + (if b then 0 else suc r))
place-at true any i r o h k = ap Some (omega arith)
place-at false any i r o h k = k h ∙ ap Some (omega arith)

place-from : {A : Type 0} (p : A → Bool) (i : ℕ) (ns : List A) → list_any p ns ≡ true → position_from p i ns ≡ Some (i + place p ns)
place-from p i [] h = absurd (cc)
place-from p i (n ∷ ns) h = place-at (p n) (list_any p ns) i (place p ns) (position_from p (i + 1) ns) h (place-from p (i + 1) ns)

chosen-at : (b any : Bool) (q r x : ℕ) (qs : List ℕ) → (b || any) ≡ true → (any ≡ true → slice_index_or qs r 0 ≡ x)
    → slice_index_or (q ∷ qs) (if b then 0 else suc r) 0 ≡ (if b then q else x)
chosen-at true any q r x qs h k = refl
chosen-at false any q r x qs h k = k h

chosen-place : {A : Type 0} (p : A → Bool) (ns : List A) (qs : List ℕ) → list_any p ns ≡ true → slice_index_or qs (place p ns) 0 ≡ chosen p ns qs
chosen-place p [] qs h = absurd (cc)
chosen-place p (n ∷ ns) [] h = refl
chosen-place p (n ∷ ns) (q ∷ qs) h = chosen-at (p n) (list_any p ns) q (place p ns) (chosen p ns qs) qs h (chosen-place p ns qs)

-- the qubit that a name stands for
abbrev named : List ℕ → List (List ℕ) → List ℕ → ℕ
named qubits ns name = slice_index_or qubits (place_of name ns) 0

-- the name is one of these
abbrev is_in : List (List ℕ) → List ℕ → Bool
is_in ns name = list_any (λ other. bytes_eq other name) ns

is_other-names : (ns names : List (List ℕ)) → list_any (is_other (places_among ns)) names ≡ list_any (λ name. not (is_in ns name)) names
is_other-names ns names = λ i. list_any (λ name. not ((ap is_some (position_from-zero (λ other. bytes_eq other name) ns) ∙ is_some-place (λ other. bytes_eq other name) 0 ns) i)) names

named-chosen : (qubits : List ℕ) (ns : List (List ℕ)) (name : List ℕ) → is_in ns name ≡ true → named qubits ns name ≡ chosen (λ other. bytes_eq other name) ns qubits
named-chosen qubits ns name h =
    ap (λ o. slice_index_or qubits (place_or_zero o) 0) (position_from-zero (λ other. bytes_eq other name) ns ∙ place-from (λ other. bytes_eq other name) 0 ns h ∙ ap Some (zero-add _))
    ∙ chosen-place (λ other. bytes_eq other name) ns qubits h

-- it is among the qubits
member-at : (b any : Bool) (q x : ℕ) (qs : List ℕ) → (b || any) ≡ true → (any ≡ true → list_any (λ m. m == x) qs ≡ true)
    → list_any (λ m. m == (if b then q else x)) (q ∷ qs) ≡ true
member-at true any q x qs h k = ap (λ b. b || list_any (λ m. m == q) qs) (same_number q)
member-at false any q x qs h k = or_right (q == x) (list_any (λ m. m == x) qs) (k h)

member : {A : Type 0} (p : A → Bool) (ns : List A) (qs : List ℕ) → length qs ≡ length ns → list_any p ns ≡ true → list_any (λ m. m == chosen p ns qs) qs ≡ true
member p [] qs e h = absurd (cc)
member p (n ∷ ns) [] e h = absurd (let k : 0 ≡ suc (length ns) = e in omega arith)
member p (n ∷ ns) (q ∷ qs) e h =
    let rest : length qs ≡ length ns = omega arith in
    member-at (p n) (list_any p ns) q (chosen p ns qs) qs h (member p ns qs rest)

-- different names stand for different qubits
apart-at : (b : Bool) (q y : ℕ) (qs : List ℕ) → (q == y) ≡ b → list_any (λ m. m == q) qs ≡ false → list_any (λ m. m == y) qs ≡ true → b ≡ false
apart-at false q y qs e h k = refl
apart-at true q y qs e h k = absurd (let same : q ≡ y = grind (arith, nat_tests) in let there = ap (λ n. list_any (λ m. m == n) qs) same in cc)

turned : (q y : ℕ) → (q == y) ≡ false → (y == q) ≡ false
turned q y h = grind (arith, nat_tests)

differ-at : (b c some other : Bool) (q x y : ℕ) (qs : List ℕ) → (b || some) ≡ true → (c || other) ≡ true → has_twice ◌==◌ (q ∷ qs) ≡ false → (b ≡ true → c ≡ true → false ≡ true)
    → (some ≡ true → list_any (λ m. m == x) qs ≡ true) → (other ≡ true → list_any (λ m. m == y) qs ≡ true) → (some ≡ true → other ≡ true → (x == y) ≡ false)
    → ((if b then q else x) == (if c then q else y)) ≡ false
differ-at true true some other q x y qs h k twice apart first second rest = absurd (let no = apart refl refl in cc)
differ-at true false some other q x y qs h k twice apart first second rest = apart-at (q == y) q y qs refl (or-first _ _ twice) (second k)
differ-at false true some other q x y qs h k twice apart first second rest = turned q x (apart-at (q == x) q x qs refl (or-first _ _ twice) (first h))
differ-at false false some other q x y qs h k twice apart first second rest = rest h k

differ : {A : Type 0} (p r : A → Bool) (ns : List A) (qs : List ℕ) → length qs ≡ length ns → has_twice ◌==◌ qs ≡ false → ((n : A) → p n ≡ true → r n ≡ true → false ≡ true)
    → list_any p ns ≡ true → list_any r ns ≡ true → (chosen p ns qs == chosen r ns qs) ≡ false
differ p r [] qs e twice apart h k = absurd (cc)
differ p r (n ∷ ns) [] e twice apart h k = absurd (let no : 0 ≡ suc (length ns) = e in omega arith)
differ p r (n ∷ ns) (q ∷ qs) e twice apart h k =
    let rest : length qs ≡ length ns = omega arith in
    differ-at (p n) (r n) (list_any p ns) (list_any r ns) q (chosen p ns qs) (chosen r ns qs) qs h k twice (apart n) (member p ns qs rest) (member r ns qs rest)
    (differ p r ns qs rest (or-second _ _ twice) apart)

below-at : (b : Bool) (limit q x : ℕ) (qs : List ℕ) → (q == x) ≡ b → q < limit → (b || list_any (λ m. m == x) qs) ≡ true → (list_any (λ m. m == x) qs ≡ true → x < limit) → x < limit
below-at true limit q x qs e h k rest = grind (arith, nat_tests)
below-at false limit q x qs e h k rest = rest k

below-member : (limit x : ℕ) (qs : List ℕ) → Each (λ q. q < limit) qs → list_any (λ m. m == x) qs ≡ true → x < limit
below-member limit x [] h k = absurd (cc)
below-member limit x (q ∷ qs) h k = below-at (q == x) limit q x qs refl h.0 k (below-member limit x qs h.1)

-- names of other bytes
names-differ : (name other n : List ℕ) → bytes_eq other name ≡ false → bytes_eq n other ≡ true → bytes_eq n name ≡ true → false ≡ true
names-differ name other n h k l =
    let first : n ≡ other = (bytes_eq-Decides n other).0 k in
    let second : n ≡ name = (bytes_eq-Decides n name).0 l in
    sym h ∙ (bytes_eq-Decides other name).1 (sym first ∙ second)

named-differ : (qubits : List ℕ) (ns : List (List ℕ)) (name other : List ℕ) → length qubits ≡ length ns → has_twice ◌==◌ qubits ≡ false
    → is_in ns name ≡ true → is_in ns other ≡ true → bytes_eq other name ≡ false → (named qubits ns other == named qubits ns name) ≡ false
named-differ qubits ns name other e twice h k apart =
    ap (λ q. q == named qubits ns name) (named-chosen qubits ns other k)
    ∙ ap (λ q. chosen (λ n. bytes_eq n other) ns qubits == q) (named-chosen qubits ns name h)
    ∙ differ (λ n. bytes_eq n other) (λ n. bytes_eq n name) ns qubits e twice (λ n. names-differ name other n apart) k h

named-others : (qubits : List ℕ) (ns : List (List ℕ)) (name : List ℕ) (names : List (List ℕ)) → length qubits ≡ length ns → has_twice ◌==◌ qubits ≡ false
    → is_in ns name ≡ true → list_any (λ name. not (is_in ns name)) names ≡ false → list_any (λ other. bytes_eq other name) names ≡ false
    → list_any (λ m. m == named qubits ns name) (map (named qubits ns) names) ≡ false
named-others qubits ns name [] e twice h known apart = refl
named-others qubits ns name (other ∷ names) e twice h known apart =
    or_from (named qubits ns other == named qubits ns name) _
    (named-differ qubits ns name other e twice h (not-false (is_in ns other) (or-first _ _ known)) (or-first _ _ apart))
    (named-others qubits ns name names e twice h (or-second (not (is_in ns other)) _ known) (or-second (bytes_eq other name) _ apart))

named-distinct : (qubits : List ℕ) (ns names : List (List ℕ)) → length qubits ≡ length ns → has_twice ◌==◌ qubits ≡ false
    → list_any (λ name. not (is_in ns name)) names ≡ false → has_twice bytes_eq names ≡ false → has_twice ◌==◌ (map (named qubits ns) names) ≡ false
named-distinct qubits ns [] e twice known apart = refl
named-distinct qubits ns (name ∷ names) e twice known apart =
    or_from (list_any (λ m. m == named qubits ns name) (map (named qubits ns) names)) _
    (named-others qubits ns name names e twice (not-false (is_in ns name) (or-first _ _ known)) (or-second (not (is_in ns name)) _ known) (or-first _ _ apart))
    (named-distinct qubits ns names e twice (or-second (not (is_in ns name)) _ known) (or-second (list_any (λ other. bytes_eq other name) names) _ apart))

named-below : (limit : ℕ) (qubits : List ℕ) (ns names : List (List ℕ)) → length qubits ≡ length ns → Each (λ q. q < limit) qubits
    → list_any (λ name. not (is_in ns name)) names ≡ false → Each (λ q. q < limit) (map (named qubits ns) names)
named-below limit qubits ns [] e below known = tt
named-below limit qubits ns (name ∷ names) e below known =
    let there : is_in ns name ≡ true = not-false (is_in ns name) (or-first _ _ known) in (
      below-member limit (named qubits ns name) qubits below
          (ap (λ q. list_any (λ m. m == q) qubits) (named-chosen qubits ns name there) ∙ member (λ other. bytes_eq other name) ns qubits e there),
      named-below limit qubits ns names e below (or-second (not (is_in ns name)) _ known),
    )

-- ---- calls

-- the gate has so many qubits
abbrev pub Takes : Option (ℕ × ℕ) → ℕ → Type 0
Takes None count = ⊥
Takes (Some shape) count = count ≡ shape.1

pub takes-from : (shape : Option (ℕ × ℕ)) (angles qubits : ℕ) → is_no_gate shape ≡ false → has_other_shape shape angles qubits ≡ false → Takes shape qubits
takes-from None angles qubits h k = absurd (cc)
takes-from (Some shape) angles qubits h k =
    let same : (qubits == shape.1) ≡ true = not-false _ (or-second (not (angles == shape.0)) _ k) in grind (arith, nat_tests)

-- each gate of the scope acts on the qubits that it is called with
abbrev GatesActOn : ℕ → Scope → Type 0
GatesActOn limit scope = (name : List ℕ) (depth : ℕ) (angles : List Angle) (qubits : List ℕ) → AreArguments limit qubits
    → Takes (shape_in (meaning_of name scope)) (length qubits) → ActsOn limit (expand_declared scope name depth angles qubits)

u_of-on : (limit q : ℕ) (theta phi lambda : Option ℕ) → q < limit → ActsOn limit (u_of q theta phi lambda)
u_of-on limit q (Some theta) (Some phi) (Some lambda) h = (h, tt)
u_of-on limit q _ _ _ h = tt

u-on : (limit : ℕ) (angles : List Angle) (qubits : List ℕ) → Each (λ q. q < limit) qubits → ActsOn limit (u_events angles qubits)
u-on limit (theta ∷ phi ∷ lambda ∷ []) (q ∷ []) h = u_of-on limit q (phase_of_angle theta) (phase_of_angle phi) (phase_of_angle lambda) h.0
u-on limit _ _ h = tt

cx-on : (limit : ℕ) (qubits : List ℕ) → AreArguments limit qubits → ActsOn limit (cx_events qubits)
cx-on limit (control ∷ target ∷ []) h =
    let other : (target == control) ≡ false = or-first _ _ (or-first _ _ h.distinct) in
    ((h.below.0, h.below.1.0, λ same. grind (arith, nat_tests)), tt)
cx-on limit _ h = tt

expand-on : (limit : ℕ) (scope : Scope) (gate : Callee) (depth : ℕ) (angles : List Angle) (qubits : List ℕ) → GatesActOn limit scope → AreArguments limit qubits
    → Takes (shape_of (lookup_in scope) gate) (length qubits) → ActsOn limit (expand (λ n d a q. expand_declared scope n d a q) gate depth angles qubits)
expand-on limit scope U depth angles qubits gates h k = u-on limit angles qubits h.below
expand-on limit scope Cx depth angles qubits gates h k = cx-on limit qubits h
expand-on limit scope (Declared name) depth angles qubits gates h k = gates name depth angles qubits h k

call-at : (limit : ℕ) (scope : Scope) (gate : Callee) (depth : ℕ) (angles : Result (List Angle) Cause) (qubits : List ℕ) → GatesActOn limit scope → AreArguments limit qubits
    → Takes (shape_of (lookup_in scope) gate) (length qubits) → ActsOn limit (call (λ n d a q. expand_declared scope n d a q) gate depth angles qubits)
call-at limit scope gate depth (Err cause) qubits gates h k = tt
call-at limit scope gate depth (Ok angles) qubits gates h k = expand-on limit scope gate depth angles qubits gates h k

-- the statements of a body
sentence-on : (limit : ℕ) (scope : Scope) (form : GateForm) (depth : ℕ) (angles : List Angle) (qubits : List ℕ) (s : BodySentence) → GatesActOn limit scope → AreArguments limit qubits
    → length qubits ≡ length form.qubits → body_has_unknown (lookup_in scope) (places_among form.parameters) (places_among form.qubits) s ≡ false → body_has_wrong_count (lookup_in scope) s ≡ false → body_has_same_qubit s ≡ false
    → ActsOn limit (body_call (λ n d a q. expand_declared scope n d a q) form depth angles qubits s)
sentence-on limit scope form depth angles qubits (BodyBarrier names) gates h e unknown counts twice = tt
sentence-on limit scope form depth angles qubits (BodyApplied a) gates h e unknown counts twice =
    let known = sym (is_other-names form.qubits a.qubits) ∙ or-second (is_hidden (places_among form.parameters) (places_among form.qubits) a.gate || is_no_gate (shape_of (lookup_in scope) a.gate) || list_any (has_other_name (places_among form.parameters)) a.angles) _ unknown in
    let gate = or-second (is_hidden (places_among form.parameters) (places_among form.qubits) a.gate) _ (or-first _ _ (or-first _ _ unknown)) in
    let arguments : AreArguments limit (map (named qubits form.qubits) a.qubits) = record {
      below = named-below limit qubits form.qubits a.qubits e h.below known;
      distinct = named-distinct qubits form.qubits a.qubits e h.distinct known twice;
    } in
    call-at limit scope a.gate (depth + 1) (angles_of form.parameters angles a.angles) (map (named qubits form.qubits) a.qubits) gates arguments
    (subst (Takes (shape_of (lookup_in scope) a.gate)) (sym (length-map a.qubits (named qubits form.qubits))) (takes-from (shape_of (lookup_in scope) a.gate) (length a.angles) (length a.qubits) gate counts))

body-on : (limit : ℕ) (scope : Scope) (form : GateForm) (depth : ℕ) (angles : List Angle) (qubits : List ℕ) (body : List BodySentence) → GatesActOn limit scope → AreArguments limit qubits
    → length qubits ≡ length form.qubits → list_any (body_has_unknown (lookup_in scope) (places_among form.parameters) (places_among form.qubits)) body ≡ false → list_any (body_has_wrong_count (lookup_in scope)) body ≡ false → list_any body_has_same_qubit body ≡ false
    → ActsOn limit (flat_map (body_call (λ n d a q. expand_declared scope n d a q) form depth angles qubits) body)
body-on limit scope form depth angles qubits [] gates h e unknown counts twice = tt
body-on limit scope form depth angles qubits (s ∷ body) gates h e unknown counts twice =
    ActsOn-append limit (body_call (λ n d a q. expand_declared scope n d a q) form depth angles qubits s) _
    (sentence-on limit scope form depth angles qubits s gates h e (or-first _ _ unknown) (or-first _ _ counts) (or-first _ _ twice))
    (body-on limit scope form depth angles qubits body gates h e (or-second (body_has_unknown (lookup_in scope) (places_among form.parameters) (places_among form.qubits) s) _ unknown)
    (or-second (body_has_wrong_count (lookup_in scope) s) _ counts) (or-second (body_has_same_qubit s) _ twice))

meaning-on : (b : Bool) (limit : ℕ) (scope : Scope) (m : Meaning) (replaceable : Bool) (name : List ℕ) (depth : ℕ) (angles : List Angle) (qubits : List ℕ)
    → GatesActOn limit scope → IsSoundMeaning scope m replaceable → AreArguments limit qubits
    → Takes (shape_in (if b then Some m else meaning_of name scope)) (length qubits)
    → ActsOn limit (if b then expand_meaning (λ n d a q. expand_declared scope n d a q) m depth angles qubits else expand_declared scope name depth angles qubits)
meaning-on true limit scope (Gate form) replaceable name depth angles qubits gates sound h k =
    body-on limit scope form depth angles qubits form.body gates h k sound.all_known sound.same_counts sound.other_qubits
meaning-on false limit scope m replaceable name depth angles qubits gates sound h k = gates name depth angles qubits h k
meaning-on true limit scope _ replaceable name depth angles qubits gates sound h k = tt

gates-on : (limit : ℕ) (scope : Scope) → IsSound scope → GatesActOn limit scope
gates-on limit [] sound name depth angles qubits h k = tt
gates-on limit (d ∷ scope) sound name depth angles qubits h k =
    meaning-on (bytes_eq d.name name) limit scope d.meaning d.replaceable name depth angles qubits (gates-on limit scope sound.2) sound.0 h k

-- a call with as many qubits as the gate has
pub call-on : (limit : ℕ) (scope : Scope) (gate : Callee) (depth : ℕ) (angles : Result (List Angle) Cause) (qubits : List ℕ) → IsSound scope → AreArguments limit qubits
    → Takes (shape_of (lookup_in scope) gate) (length qubits) → ActsOn limit (call (expand_declared scope) gate depth angles qubits)
call-on limit scope gate depth angles qubits sound h k = call-at limit scope gate depth angles qubits (gates-on limit scope sound) h k
