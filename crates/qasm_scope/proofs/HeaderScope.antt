-- The gates of the header are faultless where they are declared, in any scope in which no first name is declared.
use Rattle.std.proofs.Common.{◌≡◌, Bool, true, false, ◌||◌, ◌&&◌, not, List, [], ◌∷◌, ◌++◌, length, Option, None, Some, refl, sym, ap, ap₂, ◌∙◌, subst, inl, inr, ℕ}
use Rattle.std.specs.Prelude.{if◌then◌else◌}
use Rattle.std.specs.List.{list_any, list_all}
use Rattle.std.specs.Str.{bytes_eq}
use Rattle.std.proofs.lemmas.Bool.{false≢true, and_parts, or_parts, cases_Bool}
use Rattle.std.proofs.lemmas.Slice.Eq.{bytes_eq-Decides}
use Rattle.qasm_reader.specs.Syntax.{Callee, Declared, U, Cx, BodySentence, BodyApplied, BodyBarrier, GateForm, DeclareGate}
use Rattle.qasm_scope.specs.declared.causes.Cause.{Cause}
use Rattle.qasm_scope.specs.declared.causes.Cause.TheVariants as cause
use Rattle.qasm_scope.specs.Faults.{body_is_unsupported, body_has_unknown, body_has_wrong_count, body_has_same_qubit, form_has_unknown, is_hidden, is_no_gate, is_other, has_other_name, has_other_shape, shape_of, first_cause, wrong_in}
use Rattle.qasm_scope.specs.Angles.{FormalPlaces, places_among}
use Rattle.qasm_scope.specs.HeaderGates.{first_gates, further_gates}
use Rattle.qasm_scope.specs.Meaning.{with_first, with_further}
use Rattle.qasm_scope.specs.Scope.{Scope, Declaration, Gate, lookup_in, meaning_of, is_declared, is_taken, declared, shape_in}
use Rattle.qasm_scope.specs.Applications.{has_twice}

-- ---- names
-- what isn't declared isn't taken
and-first : (a b c d : Bool) → a || c ≡ false → d ≡ false → (a && b) || d ≡ false
and-first true b c d h k = absurd (cc)
and-first false b c d h k = k

pub free-taken : (name : List ℕ) (scope : Scope) → is_declared name scope ≡ false → is_taken name scope ≡ false
free-taken name [] h = refl
free-taken name (d ∷ scope) h = and-first (bytes_eq d.name name) (not d.replaceable) (is_declared name scope) (is_taken name scope) h (free-taken name scope ((or_parts (bytes_eq d.name name) (is_declared name scope) h).1))

-- ---- gates without fault
-- nothing is wrong with each gate after those before it
abbrev pub AreFirstFaultless : List GateForm → Scope → Type 0
AreFirstFaultless [] scope = Unit {0}
AreFirstFaultless (form ∷ forms) scope =
    (wrong_in scope (DeclareGate form) ≡ None) × AreFirstFaultless forms (declared form.name (Gate form) ∷ scope)

abbrev pub replaceable : GateForm → Declaration
replaceable form = record { name = form.name; meaning = Gate form; replaceable = true }

-- nothing is wrong with each gate whose name is free after those before it
abbrev pub AreFurtherFaultless : List GateForm → Scope → Type 0
AreFurtherFaultless [] scope = Unit {0}
AreFurtherFaultless (form ∷ forms) scope =
    (is_declared form.name scope ≡ false → wrong_in scope (DeclareGate form) ≡ None)
    × AreFurtherFaultless forms (if is_declared form.name scope then scope else replaceable form ∷ scope)

-- ---- what is wrong with a declaration, where its name may be declared
abbrev tests : Bool → Bool → Bool → GateForm → Option Cause
tests taken unknown count form = first_cause (
    (list_any body_is_unsupported form.body, cause.Unsupported)
    ∷ (taken || has_twice bytes_eq (form.parameters ++ form.qubits), cause.Redeclared)
    ∷ (unknown, cause.Unknown)
    ∷ (count, cause.WrongCount)
    ∷ (list_any body_has_same_qubit form.body, cause.SameQubit)
    ∷ [])

abbrev pub wrong_but_name : Scope → GateForm → Option Cause
wrong_but_name scope form = tests false (form_has_unknown (lookup_in scope) form) (list_any (body_has_wrong_count (lookup_in scope)) form.body) form

wrong_in_is : (scope : Scope) (form : GateForm)
    → wrong_in scope (DeclareGate form) ≡ tests (is_taken form.name scope) (form_has_unknown (lookup_in scope) form) (list_any (body_has_wrong_count (lookup_in scope)) form.body) form
unfolding wrong_in
wrong_in_is scope form = refl

pub faultless : (scope : Scope) (form : GateForm) → is_taken form.name scope ≡ false → wrong_but_name scope form ≡ None → wrong_in scope (DeclareGate form) ≡ None
faultless scope form free e =
    wrong_in_is scope form ∙ ap (λ taken. tests taken (form_has_unknown (lookup_in scope) form) (list_any (body_has_wrong_count (lookup_in scope)) form.body) form) free ∙ e

-- ---- the first gates
-- declared among those before it, a form's name is as free as in the scope before all, and nothing else is wrong with it
abbrev pub AreFirstSound : Scope → Scope → List GateForm → Type 0
AreFirstSound all scope [] = Unit {0}
AreFirstSound all scope (form ∷ forms) =
    (is_declared form.name scope ≡ is_declared form.name all) × (wrong_but_name scope form ≡ None)
    × AreFirstSound all (declared form.name (Gate form) ∷ scope) forms

first_are : (all scope : Scope) (forms : List GateForm) → list_any (λ form. is_declared form.name all) forms ≡ false → AreFirstSound all scope forms → AreFirstFaultless forms scope
first_are all scope [] none s = tt
first_are all scope (form ∷ forms) none s =
    let p = or_parts (is_declared form.name all) (list_any (λ form. is_declared form.name all) forms) none in
    (faultless scope form (free-taken form.name scope (s.0 ∙ p.0)) s.1, first_are all (declared form.name (Gate form) ∷ scope) forms p.1 s.2)

pub first_sound : (scope : Scope) → AreFirstSound scope scope first_gates
first_sound scope = (refl, refl, (refl, refl, (refl, refl, (refl, refl, (refl, refl, (refl, refl, (refl, refl, (refl, refl, (refl, refl, (refl, refl, (refl, refl, (refl, refl, (refl, refl, (refl, refl, (refl, refl, (refl, refl, (refl, refl, (refl, refl, (refl, refl, (refl, refl, (refl, refl, (refl, refl, tt))))))))))))))))))))))

pub first_faultless : (scope : Scope) → list_any (λ form. is_declared form.name scope) first_gates ≡ false → AreFirstFaultless first_gates scope
first_faultless scope none = first_are scope scope first_gates none (first_sound scope)

first_after : (prefix : List GateForm) (form : GateForm) (back : List GateForm) (scope : Scope) → AreFirstFaultless (prefix ++ form ∷ back) scope
    → wrong_in (with_first prefix scope) (DeclareGate form) ≡ None
first_after [] form back scope f = f.0
first_after (x ∷ prefix) form back scope f = first_after prefix form back (declared x.name (Gate x) ∷ scope) f.1

-- the same by what stands before a form
pub first_gate_faultless : (scope : Scope) (prefix : List GateForm) (form : GateForm) (back : List GateForm)
    → list_any (λ form. is_declared form.name scope) first_gates ≡ false → first_gates ≡ prefix ++ form ∷ back
    → wrong_in (with_first prefix scope) (DeclareGate form) ≡ None
first_gate_faultless scope prefix form back none e =
    first_after prefix form back scope (subst (λ forms. AreFirstFaultless forms scope) e (first_faultless scope none))

-- ---- scopes in which the names of another one are still declared, and are found to be the same
pub record Keeps {A : Type 0} (find : List ℕ → Scope → Option A) (before after : Scope) : Type 0 where
  pub still : (name : List ℕ) → is_declared name before ≡ true → is_declared name after ≡ true
  pub same : (name : List ℕ) → is_declared name before ≡ true → find name after ≡ find name before

other_name : (a b : List ℕ) (scope : Scope) → is_declared a scope ≡ false → is_declared b scope ≡ true → bytes_eq a b ≡ false
other_name a b scope e f = elim (cases_Bool (bytes_eq a b)) [
  | inl same ↦ absurd (false≢true (sym e ∙ ap (λ name. is_declared name scope) ((bytes_eq-Decides a b).0 same) ∙ f))
  | inr other ↦ other
]

-- so are they after a further gate, whose name is found to be this value
module _ {A : Type 0} (find : List ℕ → Scope → Option A) (before after : Scope) (form : GateForm) (value : A)
    (finds : (name : List ℕ) → find name (replaceable form ∷ after) ≡ (if bytes_eq form.name name then Some value else find name after)) where
  keeps_more : is_declared form.name after ≡ false → Keeps find before after → Keeps find before (replaceable form ∷ after)
  keeps_more free k = record {
    still = λ name e. ap₂ (λ same declared. same || declared) (other_name form.name name after free (k.still name e)) (k.still name e);
    same = λ name e. finds name ∙ ap (λ same. if same then Some value else find name after) (other_name form.name name after free (k.still name e)) ∙ k.same name e;
  }

  pub keeps_step : Keeps find before after → Keeps find before (if is_declared form.name after then after else replaceable form ∷ after)
  keeps_step k = go (is_declared form.name after) refl where
    go : (o : Bool) → is_declared form.name after ≡ o → Keeps find before (if o then after else replaceable form ∷ after)
    go true e = k
    go false e = keeps_more e k

-- ---- a body whose gates are declared has the same faults where their names mean the same
abbrev pub knows_gate : Scope → Callee → Bool
knows_gate scope (Declared name) = is_declared name scope
knows_gate scope U = true
knows_gate scope Cx = true

abbrev pub knows : Scope → BodySentence → Bool
knows scope (BodyApplied a) = knows_gate scope a.gate
knows scope (BodyBarrier names) = true

module _ (before after : Scope) (k : Keeps meaning_of before after) where
  same_shape : (gate : Callee) → knows_gate before gate ≡ true → shape_of (lookup_in after) gate ≡ shape_of (lookup_in before) gate
  same_shape (Declared name) e = ap shape_in (k.same name e)
  same_shape _ e = refl

  same_unknown : (parameters qubits : FormalPlaces) (b : BodySentence) → knows before b ≡ true
      → body_has_unknown (lookup_in after) parameters qubits b ≡ body_has_unknown (lookup_in before) parameters qubits b
  same_unknown parameters qubits (BodyApplied a) e =
      ap (λ shape. is_hidden parameters qubits a.gate || is_no_gate shape || list_any (has_other_name parameters) a.angles || list_any (is_other qubits) a.qubits)
      (same_shape a.gate e)
  same_unknown parameters qubits (BodyBarrier names) e = refl

  same_count : (b : BodySentence) → knows before b ≡ true → body_has_wrong_count (lookup_in after) b ≡ body_has_wrong_count (lookup_in before) b
  same_count (BodyApplied a) e = ap (λ shape. has_other_shape shape (length a.angles) (length a.qubits)) (same_shape a.gate e)
  same_count (BodyBarrier names) e = refl

  same_any : (f g : BodySentence → Bool) → ((b : BodySentence) → knows before b ≡ true → f b ≡ g b) → (body : List BodySentence)
      → list_all (knows before) body ≡ true → list_any f body ≡ list_any g body
  same_any f g each [] e = refl
  same_any f g each (b ∷ body) e =
      let p : (knows before b ≡ true) × (list_all (knows before) body ≡ true) = and_parts (knows before b) (list_all (knows before) body) e in
      ap₂ (λ x y. x || y) (each b p.0) (same_any f g each body p.1)

  same_wrong : (form : GateForm) → list_all (knows before) form.body ≡ true → wrong_but_name after form ≡ wrong_but_name before form
  same_wrong form e =
      ap₂ (λ unknown count. tests false unknown count form)
      (same_any _ _ (same_unknown (places_among form.parameters) (places_among form.qubits)) form.body e)
      (same_any (body_has_wrong_count (lookup_in after)) (body_has_wrong_count (lookup_in before)) same_count form.body e)

-- ---- the further gates
abbrev AreSound : Scope → List GateForm → Type 0
AreSound scope [] = Unit {0}
AreSound scope (form ∷ forms) = (list_all (knows scope) form.body ≡ true) × (wrong_but_name scope form ≡ None) × AreSound scope forms

further_are : (before after : Scope) (forms : List GateForm) → AreSound before forms → Keeps meaning_of before after → AreFurtherFaultless forms after
further_are before after [] s k = tt
further_are before after (form ∷ forms) s k = (
  λ free. faultless after form (free-taken form.name after free) (same_wrong before after k form s.0 ∙ s.1),
  further_are before (if is_declared form.name after then after else replaceable form ∷ after) forms s.2 (keeps_step meaning_of before after form (Gate form) (λ name. refl) k),
)

further_sound : (scope : Scope) → AreSound (with_first first_gates scope) further_gates
further_sound scope = (refl, refl, (refl, refl, (refl, refl, (refl, refl, (refl, refl, (refl, refl, (refl, refl, (refl, refl, (refl, refl, (refl, refl, (refl, refl, tt)))))))))))

pub further_faultless : (scope : Scope) → AreFurtherFaultless further_gates (with_first first_gates scope)
further_faultless scope =
    further_are (with_first first_gates scope) (with_first first_gates scope) further_gates (further_sound scope) (record { still = λ name e. e; same = λ name e. refl })

further_after : (prefix : List GateForm) (form : GateForm) (back : List GateForm) (scope : Scope) → AreFurtherFaultless (prefix ++ form ∷ back) scope
    → is_declared form.name (with_further prefix scope) ≡ false → wrong_in (with_further prefix scope) (DeclareGate form) ≡ None
further_after [] form back scope f free = f.0 free
further_after (x ∷ prefix) form back scope f free =
    further_after prefix form back (if is_declared x.name scope then scope else replaceable x ∷ scope) f.1 free

-- the same by what stands before a form
pub further_gate_faultless : (scope : Scope) (prefix : List GateForm) (form : GateForm) (back : List GateForm) → further_gates ≡ prefix ++ form ∷ back
    → is_declared form.name (with_further prefix (with_first first_gates scope)) ≡ false
    → wrong_in (with_further prefix (with_first first_gates scope)) (DeclareGate form) ≡ None
further_gate_faultless scope prefix form back e =
    further_after prefix form back (with_first first_gates scope)
    (subst (λ forms. AreFurtherFaultless forms (with_first first_gates scope)) e (further_faultless scope))
