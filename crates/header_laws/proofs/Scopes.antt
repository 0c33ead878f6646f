-- What stands before the header changes none of its gates.
use Rattle.std.specs.Prelude.{◌≡◌, ℕ, ◌+◌, Bool, true, false, ◌&&◌, ◌||◌, if◌then◌else◌, List, [], ◌∷◌, ◌++◌, map, slice_index_or}
use Rattle.std.specs.List.{list_all, flat_map}
use Rattle.std.specs.Str.{bytes_eq}
use Rattle.std.proofs.Common.{refl, sym, ap, ap₂, ◌∙◌}
use Rattle.std.proofs.lemmas.Bool.{false≢true, and_parts, or_parts}
use Rattle.std.proofs.lemmas.Slice.Eq.{bytes_eq-Decides}
use Rattle.qasm_angle.specs.declared.angle.Angle.{Angle}
use Rattle.qasm_reader.specs.Syntax.{Callee, Declared, GateForm, BodySentence, BodyApplied, BodyBarrier}
use Rattle.qasm_scope.specs.Angles.{angles_of, place_of}
use Rattle.qasm_scope.specs.Calls.{Called, after_angles, expand, body_call, expand_meaning, expand_declared}
use Rattle.qasm_scope.specs.HeaderGates.{first_gates, further_gates}
use Rattle.qasm_scope.specs.Meaning.{with_header, with_first, with_further}
use Rattle.qasm_scope.proofs.HeaderScope.{knows_gate, knows}
use Rattle.qasm_scope.specs.Scope.{Scope, Declaration, Gate, is_declared, declared}

-- a name is declared in both scopes or in none, and comes to the same
record Same (one other : Scope) (name : List ℕ) : Type 0 where
  pub both : is_declared name one ≡ is_declared name other
  pub events : (depth : ℕ) (angles : List Angle) (qubits : List ℕ)
      → expand_declared one name depth angles qubits ≡ expand_declared other name depth angles qubits

-- so do all names of a third scope, which are declared
record Agree (known one other : Scope) : Type 0 where
  pub is : (name : List ℕ) → is_declared name known ≡ true → is_declared name one ≡ true
  pub same : (name : List ℕ) → is_declared name known ≡ true → Same one other name

-- ---- bodies whose gates are known
abbrev knows_all : Scope → List GateForm → Bool
knows_all known [] = true
knows_all known (form ∷ forms) = list_all (knows known) form.body && knows_all known forms

-- each body by the forms before it, too
abbrev knows_each : Scope → List GateForm → Bool
knows_each known [] = true
knows_each known (form ∷ forms) = list_all (knows known) form.body && knows_each (declared form.name (Gate form) ∷ known) forms

module _ (known one other : Scope) (agree : Agree known one other) where
  same_gate : (gate : Callee) → knows_gate known gate ≡ true → (depth : ℕ) (angles : List Angle) (qubits : List ℕ)
      → expand (λ n d a q. expand_declared one n d a q) gate depth angles qubits ≡ expand (λ n d a q. expand_declared other n d a q) gate depth angles qubits
  same_gate (Declared name) e depth angles qubits = (agree.same name e).events depth angles qubits
  same_gate _ e depth angles qubits = refl

  module _ (form : GateForm) (depth : ℕ) (angles : List Angle) (qubits : List ℕ) where
    same_call : (b : BodySentence) → knows known b ≡ true
        → body_call (λ n d a q. expand_declared one n d a q) form depth angles qubits b ≡ body_call (λ n d a q. expand_declared other n d a q) form depth angles qubits b
    same_call (BodyApplied a) e =
        λ i. Called (depth + 1) ∷ after_angles (angles_of form.parameters angles a.angles) (λ values. same_gate a.gate e (depth + 1) values (map (λ name. slice_index_or qubits (place_of name form.qubits) 0) a.qubits) i)
    same_call (BodyBarrier names) e = refl

    same_calls : (body : List BodySentence) → list_all (knows known) body ≡ true
        → flat_map (body_call (λ n d a q. expand_declared one n d a q) form depth angles qubits) body
        ≡ flat_map (body_call (λ n d a q. expand_declared other n d a q) form depth angles qubits) body
    same_calls [] e = refl
    same_calls (b ∷ body) e =
        let p : (knows known b ≡ true) × (list_all (knows known) body ≡ true) = and_parts (knows known b) (list_all (knows known) body) e in
        ap₂ (λ x y. x ++ y) (same_call b p.0) (same_calls body p.1)

-- ---- a declaration in both scopes
abbrev as_gate : GateForm → Bool → Declaration
as_gate form replaceable = record { name = form.name; meaning = Gate form; replaceable = replaceable }

module _ (known one other : Scope) (agree : Agree known one other) (form : GateForm) (e : list_all (knows known) form.body ≡ true) (replaceable : Bool) where
  pushed : (name : List ℕ) → (bytes_eq form.name name ≡ false → Same one other name) → Same (as_gate form replaceable ∷ one) (as_gate form replaceable ∷ other) name
  pushed name s = record { both = both (bytes_eq form.name name) refl; events = λ depth angles qubits. events depth angles qubits (bytes_eq form.name name) refl }
    where
      both : (b : Bool) → bytes_eq form.name name ≡ b → (b || is_declared name one) ≡ (b || is_declared name other)
      both true f = refl
      both false f = (s f).both

      events : (depth : ℕ) (angles : List Angle) (qubits : List ℕ) (b : Bool) → bytes_eq form.name name ≡ b
          → (if b then expand_meaning (λ n d a q. expand_declared one n d a q) (Gate form) depth angles qubits else expand_declared one name depth angles qubits)
          ≡ (if b then expand_meaning (λ n d a q. expand_declared other n d a q) (Gate form) depth angles qubits else expand_declared other name depth angles qubits)
      events depth angles qubits true f = same_calls known one other agree form depth angles qubits form.body e
      events depth angles qubits false f = (s f).events depth angles qubits

  -- and the name is known from then on
  push_known : Agree (as_gate form replaceable ∷ known) (as_gate form replaceable ∷ one) (as_gate form replaceable ∷ other)
  push_known = record {
    is = λ name h. is name (bytes_eq form.name name) h;
    same = λ name h. pushed name (λ f. agree.same name (sym (ap (λ b. b || is_declared name known) f) ∙ h));
  } where
    is : (name : List ℕ) (b : Bool) → (b || is_declared name known) ≡ true → (b || is_declared name one) ≡ true
    is name true h = refl
    is name false h = agree.is name h

-- ---- the first gates
first_both : (forms : List GateForm) (known one other : Scope) → Agree known one other → knows_each known forms ≡ true
    → Agree (with_first forms known) (with_first forms one) (with_first forms other) × ((name : List ℕ) → Same one other name → Same (with_first forms one) (with_first forms other) name)
first_both [] known one other agree e = (agree, λ name s. s)
first_both (form ∷ forms) known one other agree e =
    let p : (list_all (knows known) form.body ≡ true) × (knows_each (as_gate form false ∷ known) forms ≡ true) = and_parts _ _ e in
    let later = first_both forms (as_gate form false ∷ known) (as_gate form false ∷ one) (as_gate form false ∷ other) (push_known known one other agree form p.0 false) p.1 in
    (later.0, λ name s. later.1 name (pushed known one other agree form p.0 false name (λ f. s)))

-- ---- the further gates: a declaration in one of the scopes where the name is declared in the other
not_both : (form : GateForm) (name : List ℕ) (one other : Scope) → Same one other name → is_declared form.name one ≡ false → is_declared form.name other ≡ true
    → (b : Bool) → bytes_eq form.name name ≡ b → b ≡ false
not_both form name one other s free taken false f = refl
not_both form name one other s free taken true f =
    let same : form.name ≡ name = (bytes_eq-Decides form.name name).0 f in
    absurd (false≢true (sym free ∙ ap (λ n. is_declared n one) same ∙ s.both ∙ sym (ap (λ n. is_declared n other) same) ∙ taken))

passed : (form : GateForm) (name : List ℕ) (one other : Scope) → Same one other name → bytes_eq form.name name ≡ false → Same (as_gate form true ∷ one) other name
passed form name one other s f = record {
  both = ap (λ b. b || is_declared name one) f ∙ s.both;
  events = λ depth angles qubits. ap (λ b. if b then expand_meaning (λ n d a q. expand_declared one n d a q) (Gate form) depth angles qubits else expand_declared one name depth angles qubits) f
      ∙ s.events depth angles qubits;
}

turned : (one other : Scope) (name : List ℕ) → Same one other name → Same other one name
turned one other name s = record { both = sym s.both; events = λ depth angles qubits. sym (s.events depth angles qubits) }

abbrev step : GateForm → Scope → Scope
step form scope = if is_declared form.name scope then scope else as_gate form true ∷ scope

module _ (known one other : Scope) (agree : Agree known one other) (form : GateForm) (e : list_all (knows known) form.body ≡ true) where
  stepped : (name : List ℕ) → Same one other name → Same (step form one) (step form other) name
  stepped name s = go (is_declared form.name one) (is_declared form.name other) refl refl where
    go : (b c : Bool) → is_declared form.name one ≡ b → is_declared form.name other ≡ c
        → Same (if b then one else as_gate form true ∷ one) (if c then other else as_gate form true ∷ other) name
    go true true f g = s
    go false false f g = pushed known one other agree form e true name (λ h. s)
    go false true f g = passed form name one other s (not_both form name one other s f g (bytes_eq form.name name) refl)
    go true false f g =
        let t = turned one other name s in
        turned _ _ name (passed form name other one t (not_both form name other one t g f (bytes_eq form.name name) refl))

  step_agree : Agree known (step form one) (step form other)
  step_agree = record {
    is = λ name h. go name (is_declared form.name one) (agree.is name h);
    same = λ name h. stepped name (agree.same name h);
  } where
    or-true : (b c : Bool) → c ≡ true → (b || c) ≡ true
    or-true true c h = refl
    or-true false c h = h

    go : (name : List ℕ) (b : Bool) → is_declared name one ≡ true → is_declared name (if b then one else as_gate form true ∷ one) ≡ true
    go name true h = h
    go name false h = or-true (bytes_eq form.name name) (is_declared name one) h

further_same : (forms : List GateForm) (known one other : Scope) → Agree known one other → knows_all known forms ≡ true
    → (name : List ℕ) → Same one other name → Same (with_further forms one) (with_further forms other) name
further_same [] known one other agree e name s = s
further_same (form ∷ forms) known one other agree e name s =
    let p : (list_all (knows known) form.body ≡ true) × (knows_all known forms ≡ true) = and_parts _ _ e in
    further_same forms known (step form one) (step form other) (step_agree known one other agree form p.0) p.1 name
    (stepped known one other agree form p.0 name s)

-- ---- the header
undeclared : (scope : Scope) (name : List ℕ) → is_declared name scope ≡ false → (depth : ℕ) (angles : List Angle) (qubits : List ℕ)
    → expand_declared scope name depth angles qubits ≡ []
undeclared [] name e depth angles qubits = refl
undeclared (d ∷ scope) name e depth angles qubits =
    let p : (bytes_eq d.name name ≡ false) × (is_declared name scope ≡ false) = or_parts (bytes_eq d.name name) (is_declared name scope) e in
    ap (λ b. if b then expand_meaning (λ n d a q. expand_declared scope n d a q) d.meaning depth angles qubits else expand_declared scope name depth angles qubits) p.0
    ∙ undeclared scope name p.1 depth angles qubits

none_known : (scope : Scope) → Agree [] scope []
none_known scope = record { is = λ name h. absurd (false≢true h); same = λ name h. absurd (false≢true h) }

pub same_in_each_scope : (scope : Scope) (name : List ℕ) → is_declared name scope ≡ false → (depth : ℕ) (angles : List Angle) (qubits : List ℕ)
    → expand_declared (with_header scope) name depth angles qubits ≡ expand_declared (with_header []) name depth angles qubits
unfolding with_header
same_in_each_scope scope name free =
    let s : Same scope [] name = record { both = free; events = undeclared scope name free } in
    let first = first_both first_gates [] scope [] (none_known scope) refl in
    (further_same further_gates (with_first first_gates []) (with_first first_gates scope) (with_first first_gates []) first.0 refl name (first.1 name s)).events
