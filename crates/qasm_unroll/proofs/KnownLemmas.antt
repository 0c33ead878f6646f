-- What calls without angles come to is kept, and is the same after further declarations.
use Rattle.std.proofs.Common.{◌≡◌, ℕ, zero, suc, ◌+◌, ◌-◌, ◌<◌, ◌≤◌, Bool, true, false, if◌then◌else◌, List, [], ◌∷◌, ◌++◌, length, length-append, map, slice_index_or, slice_set, Option, None, Some, inl, inr, ◌⊎◌, refl, sym, ap, ap₂, subst, ◌∙◌, append-nil, add-zero, arith, nat_le, nat_lt}
use Rattle.std.specs.List.{slice_get}
use Rattle.std.proofs.lemmas.Bool.Decides.{nat_tests}
use Rattle.std.proofs.lemmas.List.{length-map, length-set}
use Rattle.std.proofs.lemmas.Option.{slice_get_within}
use Rattle.zx_gates.specs.declared.elementary.ElementaryGate.{ElementaryGate}
use Rattle.qasm_angle.specs.declared.angle.Angle.{Angle}
use Rattle.qasm_angle.specs.Trees.{Tree}
use Rattle.qasm_reader.specs.Syntax.{GateForm, Sentence, Include, QubitRegister, BitRegister, DeclareGate}
use Rattle.qasm_scope.specs.declared.causes.Cause.{Cause}
use Rattle.qasm_scope.specs.declared.causes.Cause.TheVariants.{TooDeep, TooManyGates}
use Rattle.qasm_scope.specs.Calls.{Event, Called, applied, call_count, deepest, first_wrong}
use Rattle.qasm_scope.specs.HeaderGates.{first_gates, further_gates}
use Rattle.qasm_scope.specs.Meaning.{after_statement, most_calls, with_first, with_further, with_header}
use Rattle.qasm_scope.specs.Scope.{Scope, Declaration, Qubits, Bits, Gate, bit_count, declared, is_declared, numeral, qubit_count}
use Rattle.qasm_names.specs.declared.gates.CalledGate.{CalledGate}
use Rattle.qasm_names.specs.declared.gates.CalledGate.TheVariants as called_gate
use Rattle.qasm_names.specs.declared.gates.GateBody.{GateBody}
use Rattle.qasm_names.specs.Kept.{gate_count, kept_body, kept_gates}
use Rattle.qasm_names.proofs.Symbols.{kept-length}
use Rattle.qasm_unroll.specs.declared.expansions.Expansion.{Expansion}
use Rattle.qasm_unroll.specs.declared.expansions.Known.{Known}
use Rattle.qasm_unroll.specs.declared.expansions.Known.TheVariants as known_call
use Rattle.qasm_unroll.specs.declared.unroll.Unrolled.{Unrolled}
use Rattle.qasm_unroll.specs.Internal.KeptCalls.{AreRenamed, Continues, Numbered, Unrolls, called_events, expand_number, renamed, renamed_event, values_of}
use Rattle.qasm_unroll.specs.Internal.KnownCalls.{AreKnown, IsExpansion, at, known_of, placed_events, places}
use Rattle.qasm_unroll.proofs.Keeping.{number-after}
use Rattle.qasm_unroll.proofs.PlacedLemmas.{applied-renamed, count-renamed, faultless-elsewhere, wrong-renamed}

-- ---- a copy

past-places : (qubits : List ℕ) (place : ℕ) → length qubits ≤ 4 → slice_index_or qubits (suc (suc (suc (suc place)))) 0 ≡ 0
past-places (a ∷ b ∷ c ∷ d ∷ e ∷ qubits) place few = absurd (omega arith)
past-places _ place few = refl

in-places : (qubits : List ℕ) (place : ℕ) → length qubits ≤ 4 → slice_index_or qubits place 0 ≡ at (0 ∷ qubits) (slice_index_or places place 0)
in-places qubits (suc (suc (suc (suc place)))) few = past-places qubits place few
in-places qubits _ few = refl

places-renamed : (qubits : List ℕ) → length qubits ≤ 4 → AreRenamed (at (0 ∷ qubits)) places qubits
places-renamed qubits few = record { none = refl; each = λ place. in-places qubits place few }

-- what is kept of a call is what it comes to on few qubits
copied : (bodies : List GateBody) (numbered : Numbered) (number : ℕ) (kept : Expansion) (qubits : List ℕ) (calls later : ℕ) (gates more : List ElementaryGate)
    → Unrolls bodies numbered → IsExpansion numbered number kept → length qubits ≤ 4 → later ≡ calls + kept.calls → later ≤ most_calls
    → more ≡ gates ++ map (renamed (at (0 ∷ qubits))) kept.gates
    → Continues most_calls calls gates (Called 1 ∷ numbered number 1 [] qubits) later more []
copied bodies numbered number kept qubits calls later gates more unrolls is few el within em =
    let f = at (0 ∷ qubits) in
    let same : (Called 1 ∷ numbered number 1 [] qubits) ≡ map (renamed_event f) (placed_events numbered number) =
    ap (λ events. Called 1 ∷ events) (unrolls.by_places number 1 [] f places qubits (places-renamed qubits few)) in
    record {
      same_wrong = ap (first_wrong most_calls calls) same ∙ wrong-renamed most_calls calls f (placed_events numbered number) ∙ is.faultless calls (omega (arith, el, within));
      same_gates = ap (λ events. gates ++ applied events) same ∙ ap (λ gs. gates ++ gs) (applied-renamed f (placed_events numbered number) ∙ ap (map (renamed f)) is.same_gates)
          ∙ sym em ∙ sym (append-nil more);
      same_calls = ap (λ events. calls + call_count events) same ∙ ap (λ n. calls + n) (count-renamed f (placed_events numbered number) ∙ is.same_calls) ∙ sym el ∙ sym (add-zero later);
    }

-- so it is of the gate that is called, where that has no angles
pub copied-call : (bodies : List GateBody) (numbered : Numbered) (count : ℕ) (called : CalledGate) (angles : List Tree) (known : List Known) (kept : Expansion) (qubits : List ℕ)
    (calls later : ℕ) (gates more : List ElementaryGate) → Unrolls bodies numbered → AreKnown numbered count known → length angles ≡ 0 → known_of known called ≡ Some (known_call.Kept kept)
    → length qubits ≤ 4 → later ≡ calls + kept.calls → later ≤ most_calls → more ≡ gates ++ map (renamed (at (0 ∷ qubits))) kept.gates
    → Continues most_calls calls gates (called_events numbered called 1 (values_of angles []) qubits) later more []
copied-call bodies numbered count (called_gate.Gate number) (t ∷ angles) known kept qubits calls later gates more unrolls h none e few el within em = absurd (omega arith)
copied-call bodies numbered count (called_gate.Gate number) [] known kept qubits calls later gates more unrolls h none e few el within em =
    copied bodies numbered number kept qubits calls later gates more unrolls (h.each number kept e) few el within em
copied-call bodies numbered count _ angles known kept qubits calls later gates more unrolls h none e few el within em = absurd (cc)

-- where what is known changes alone, equal events lead to the same
pub Continues-learnt : (most : ℕ) (first later : Unrolled) (events more : List Event) → later ≡ record first { known = later.known } → events ≡ more
    → Continues most first.calls first.gates events later.calls later.gates more
Continues-learnt most first later events more e same = record {
  same_wrong = ap₂ (first_wrong most) (sym (ap (λ u. u.calls) e)) same;
  same_gates = ap₂ (λ gates es. gates ++ applied es) (sym (ap (λ u. u.gates) e)) same;
  same_calls = ap₂ (λ calls es. calls + call_count es) (sym (ap (λ u. u.calls) e)) same;
}

-- ---- what is kept

first-called : (many : Bool) (rest : Option Cause) → many ≡ false → rest ≡ None → (if many then Some TooManyGates else (if nat_lt deepest 1 then Some TooDeep else rest)) ≡ None
first-called true rest h k = absurd (cc)
first-called false rest h k = k

-- what the call on places has come to, counted itself
expansion-from : (numbered : Numbered) (number before calls : ℕ) (gates : List ElementaryGate) (kept : Expansion)
    → Continues most_calls (before + 1) [] (numbered number 1 [] places) calls gates [] → kept.gates ≡ gates → kept.calls ≡ calls - before → IsExpansion numbered number kept
expansion-from numbered number before calls gates kept h eg ec =
    let events = numbered number 1 [] places in
    let count : call_count events + 1 ≡ kept.calls = omega (arith, h.same_calls, ec) in
    record {
      same_gates = h.same_gates ∙ append-nil gates ∙ sym eg;
      same_calls = count;
      faultless = λ earlier few.
          let within : nat_le most_calls earlier ≡ false = grind (arith, nat_tests) in
          let fewer : (earlier + 1) + call_count events ≤ most_calls = omega arith in
          first-called (nat_le most_calls earlier) (first_wrong most_calls (earlier + 1) events) within (faultless-elsewhere most_calls (before + 1) (earlier + 1) events h.same_wrong fewer);
    }

-- so it has where it began with no gates and no angles
pub expansion-made : (numbered : Numbered) (number before calls : ℕ) (first later : List ElementaryGate) (angles : List Angle) (qubits : List ℕ) (kept : Expansion)
    → first ≡ [] → angles ≡ [] → qubits ≡ places
    → Continues most_calls (before + 1) first (numbered number 1 angles qubits) calls later [] → kept.gates ≡ later → kept.calls ≡ calls - before → IsExpansion numbered number kept
expansion-made numbered number before calls first later angles qubits kept eg ea eq h same_gates same_calls =
    expansion-from numbered number before calls later kept
    (subst (λ values. Continues most_calls (before + 1) [] (numbered number 1 values places) calls later []) ea
    (subst (λ qs. Continues most_calls (before + 1) [] (numbered number 1 angles qs) calls later []) eq
    (subst (λ gs. Continues most_calls (before + 1) gs (numbered number 1 angles qubits) calls later []) eg h))) same_gates same_calls

-- a gate more, of which nothing is known yet
pushed : (known : List Known) (place : ℕ) (kept : Expansion) → slice_get (known ++ known_call.Untried ∷ []) place ≡ Some (known_call.Kept kept)
    → slice_get known place ≡ Some (known_call.Kept kept)
pushed [] zero kept h = absurd (let k : Some known_call.Untried ≡ Some (known_call.Kept kept) = h in cc)
pushed (one ∷ known) (suc place) kept h = pushed known place kept h
pushed _ _ kept h = h

pub known-push : (numbered : Numbered) (count number : ℕ) (known later : List Known) → later ≡ known ++ known_call.Untried ∷ [] → length known ≡ number → number < count
    → AreKnown numbered count known → AreKnown numbered count later
known-push numbered count number known later e el within h = record {
  few = omega (arith, ap length e, length-append known (known_call.Untried ∷ []), el, within);
  each = λ place kept there. h.each place kept (pushed known place kept (ap (λ l. slice_get l place) (sym e) ∙ there));
}

-- what is known of a gate from now on
setting : (known : List Known) (number place : ℕ) (found : Known) (kept : Expansion) → slice_get (slice_set known number found) place ≡ Some (known_call.Kept kept)
    → (slice_get known place ≡ Some (known_call.Kept kept)) ⊎ ((number ≡ place) × (found ≡ known_call.Kept kept))
setting (one ∷ known) zero zero found kept h = inr (refl, let k : Some found ≡ Some (known_call.Kept kept) = h in cc)
setting (one ∷ known) (suc number) (suc place) found kept h = next (setting known number place found kept h)
  where
    next : (slice_get known place ≡ Some (known_call.Kept kept)) ⊎ ((number ≡ place) × (found ≡ known_call.Kept kept))
        → (slice_get known place ≡ Some (known_call.Kept kept)) ⊎ ((suc number ≡ suc place) × (found ≡ known_call.Kept kept))
    next (inl e) = inl e
    next (inr e) = inr (ap suc e.0, e.1)
setting _ _ _ found kept h = inl h

pub known-set : (numbered : Numbered) (count number : ℕ) (known later : List Known) (found : Known) → later ≡ slice_set known number found
    → ((kept : Expansion) → found ≡ known_call.Kept kept → IsExpansion numbered number kept) → AreKnown numbered count known → AreKnown numbered count later
known-set numbered count number known later found e is h = record {
  few = omega (arith, ap length e, length-set known number found, h.few);
  each = λ place kept there. from place kept (setting known number place found kept (ap (λ l. slice_get l place) (sym e) ∙ there));
}
  where
    from : (place : ℕ) (kept : Expansion) → (slice_get known place ≡ Some (known_call.Kept kept)) ⊎ ((number ≡ place) × (found ≡ known_call.Kept kept)) → IsExpansion numbered place kept
    from place kept (inl there) = h.each place kept there
    from place kept (inr there) = subst (λ n. IsExpansion numbered n kept) there.0 (is kept there.1)

pub nothing-known : (numbered : Numbered) (count : ℕ) (known : List Known) → known ≡ [] → AreKnown numbered count known
nothing-known numbered count known e = record {
  few = omega (arith, ap length e);
  each = λ number kept h. absurd (let k = slice_get_within known number (known_call.Kept kept) h in omega (arith, k, ap length e));
}

-- ---- by the gates of a scope

as-many : (bodies : List GateBody) (scope : Scope) → map kept_body bodies ≡ kept_gates scope → length bodies ≡ gate_count scope
as-many bodies scope e = sym (length-map bodies kept_body) ∙ ap length e ∙ kept-length scope

pub known-by-bodies : (bodies : List GateBody) (scope : Scope) (known : List Known) → map kept_body bodies ≡ kept_gates scope
    → AreKnown (expand_number scope) (gate_count scope) known → AreKnown (expand_number scope) (length bodies) known
known-by-bodies bodies scope known e h = subst (λ n. AreKnown (expand_number scope) n known) (sym (as-many bodies scope e)) h

pub known-in-scope : (bodies : List GateBody) (scope : Scope) (known : List Known) → map kept_body bodies ≡ kept_gates scope
    → AreKnown (expand_number scope) (length bodies) known → AreKnown (expand_number scope) (gate_count scope) known
known-in-scope bodies scope known e h = subst (λ n. AreKnown (expand_number scope) n known) (as-many bodies scope e) h

-- ---- further declarations

expansion-after : (numbered later : Numbered) (number : ℕ) (kept : Expansion) → later number 1 [] places ≡ numbered number 1 [] places → IsExpansion numbered number kept → IsExpansion later number kept
expansion-after numbered later number kept e is =
    let same : placed_events later number ≡ placed_events numbered number = ap (λ events. Called 1 ∷ events) e in
    record {
      same_gates = ap applied same ∙ is.same_gates;
      same_calls = ap call_count same ∙ is.same_calls;
      faultless = λ before few. ap (first_wrong most_calls before) same ∙ is.faultless before few;
    }

abbrev pub InScope : Scope → List Known → Type 0
InScope scope known = AreKnown (expand_number scope) (gate_count scope) known

pub known-declared : (d : Declaration) (scope : Scope) (known : List Known) → InScope scope known → InScope (d ∷ scope) known
known-declared d scope known h = record {
  few = omega (arith, h.few);
  each = λ number kept e.
      let below = slice_get_within known number (known_call.Kept kept) e in
      let there : number < gate_count scope = omega (arith, below, h.few) in
      expansion-after (expand_number scope) (expand_number (d ∷ scope)) number kept (number-after d scope number 1 [] places there) (h.each number kept e);
}

known-first : (forms : List GateForm) (scope : Scope) (known : List Known) → InScope scope known → InScope (with_first forms scope) known
known-first [] scope known h = h
known-first (form ∷ forms) scope known h = known-first forms (declared form.name (Gate form) ∷ scope) known (known-declared (declared form.name (Gate form)) scope known h)

known-if : (b : Bool) (d : Declaration) (scope : Scope) (known : List Known) → InScope scope known → InScope (if b then scope else d ∷ scope) known
known-if true d scope known h = h
known-if false d scope known h = known-declared d scope known h

known-further : (forms : List GateForm) (scope : Scope) (known : List Known) → InScope scope known → InScope (with_further forms scope) known
known-further [] scope known h = h
known-further (form ∷ forms) scope known h = known-further forms (if is_declared form.name scope then scope else record { name = form.name; meaning = Gate form; replaceable = true } ∷ scope) known
    (known-if (is_declared form.name scope) (record { name = form.name; meaning = Gate form; replaceable = true }) scope known h)

known-header : (scope : Scope) (known : List Known) → InScope scope known → InScope (with_header scope) known
unfolding with_header
known-header scope known h = known-further further_gates (with_first first_gates scope) known (known-first first_gates scope known h)

pub known-after : (scope : Scope) (sentence : Sentence) (known : List Known) → InScope scope known → InScope (after_statement scope sentence) known
known-after scope (Include text) known h = known-header scope known h
known-after scope (QubitRegister name size) known h = known-declared (declared name (Qubits (qubit_count scope) (numeral size))) scope known h
known-after scope (BitRegister name size) known h = known-declared (declared name (Bits (bit_count scope) (numeral size))) scope known h
known-after scope (DeclareGate form) known h = known-declared (declared form.name (Gate form)) scope known h
known-after scope _ known h = h
