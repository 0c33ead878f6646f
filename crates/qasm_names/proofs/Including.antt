-- The header's gates are those of the table, and are declared one after the other.
use Rattle.std.proofs.Common.{◌≡◌, ℕ, zero, suc, ◌+◌, Bool, true, false, ◌||◌, not, if◌then◌else◌, List, [], ◌∷◌, length, map, take, drop, get_or, ◌-◌, ◌≤◌, None, Some, refl, sym, ap, ap₂, ◌∙◌, subst, arith}
use Rattle.std.specs.List.{list_any, list_all}
use Rattle.std.specs.Option.{is_some}
use Rattle.std.specs.Str.{bytes_eq}
use Rattle.std.proofs.lemmas.Bool.{and_parts}
use Rattle.std.proofs.lemmas.List.{length-map, take_rest}
use Rattle.qasm_reader.specs.Syntax.{Callee, Declared, BodySentence, BodyApplied, BodyBarrier, GateForm, DeclareGate, Include}
use Rattle.qasm_scope.specs.Angles.{FormalPlaces, numbered, place_or_zero, places_among}
use Rattle.qasm_scope.specs.declared.causes.Cause.TheVariants as cause
use Rattle.qasm_scope.specs.Faults.{wrong_in}
use Rattle.qasm_scope.specs.HeaderGates.{first_gates, further_gates}
use Rattle.qasm_scope.specs.Meaning.{with_first, with_further, with_header}
use Rattle.qasm_scope.specs.Scope.{Scope, Gate, declared, is_declared}
use Rattle.qasm_scope.proofs.HeaderScope.{AreFirstFaultless, AreFurtherFaultless, Keeps, first_faultless, further_faultless, keeps_step, knows, knows_gate, replaceable}
use Rattle.qasm_names.specs.declared.gates.CalledGate.TheVariants as called_gate
use Rattle.qasm_names.specs.declared.header_table.HeaderGate.{HeaderGate}
use Rattle.qasm_names.specs.declared.names.Names.{Names}
use Rattle.qasm_names.specs.Internal.HeaderTable.{AreFirstRows, AreFurtherRows, IsRow, after, body_after, header_name}
use Rattle.qasm_names.specs.Kept.{DeclaresGate, Represents, IsSound, called_for, found, gate_count, kept_body, kept_calls, number_in, symbol_in, symbol_of, kept_names}
use Rattle.qasm_names.proofs.CheckLemmas.{sound-from}
use Rattle.qasm_names.proofs.Symbols.{kept-length, symbol-declared}

-- ---- the causes of an include
include_cause : (scope : Scope) (text : List ℕ) → wrong_in scope (Include text)
    ≡ (if not (bytes_eq text header_name) then Some cause.Include else
    if list_any (λ form. is_declared form.name scope) first_gates then Some cause.Redeclared else None)
unfolding wrong_in
include_cause scope text = refl

pub other_file : (scope : Scope) (text : List ℕ) → bytes_eq text header_name ≡ false → wrong_in scope (Include text) ≡ Some cause.Include
other_file scope text e =
    include_cause scope text
    ∙ ap (λ same. if not same then Some cause.Include else if list_any (λ form. is_declared form.name scope) first_gates then Some cause.Redeclared else None) e

pub header_cause : (scope : Scope) (text : List ℕ) (some : Bool) → bytes_eq text header_name ≡ true → list_any (λ form. is_declared form.name scope) first_gates ≡ some
    → wrong_in scope (Include text) ≡ (if some then Some cause.Redeclared else None)
header_cause scope text some e f =
    include_cause scope text
    ∙ ap (λ same. if not same then Some cause.Include else if list_any (λ form. is_declared form.name scope) first_gates then Some cause.Redeclared else None) e
    ∙ ap (λ some. if some then Some cause.Redeclared else None) f

-- ---- declarations
-- the scope after an include is sound
with_first-sound : (forms : List GateForm) (scope : Scope) → IsSound scope → AreFirstFaultless forms scope → IsSound (with_first forms scope)
with_first-sound [] scope sound f = sound
with_first-sound (form ∷ forms) scope sound f =
    with_first-sound forms (declared form.name (Gate form) ∷ scope) (sound-from scope form f.0, tt, sound) f.1

with_further-at : (b : Bool) (form : GateForm) (scope : Scope) → is_declared form.name scope ≡ b → IsSound scope
    → (is_declared form.name scope ≡ false → wrong_in scope (DeclareGate form) ≡ None) → IsSound (if b then scope else replaceable form ∷ scope)
with_further-at true form scope e sound f = sound
with_further-at false form scope e sound f = (sound-from scope form (f e), e, sound)

with_further-sound : (forms : List GateForm) (scope : Scope) → IsSound scope → AreFurtherFaultless forms scope → IsSound (with_further forms scope)
with_further-sound [] scope sound f = sound
with_further-sound (form ∷ forms) scope sound f =
    with_further-sound forms (if is_declared form.name scope then scope else replaceable form ∷ scope)
    (with_further-at (is_declared form.name scope) form scope refl sound f.0) f.1

pub with_header-sound : (scope : Scope) → IsSound scope → list_any (λ form. is_declared form.name scope) first_gates ≡ false → IsSound (with_header scope)
unfolding with_header
with_header-sound scope sound none =
    with_further-sound further_gates (with_first first_gates scope) (with_first-sound first_gates scope sound (first_faultless scope none)) (further_faultless scope)

-- ---- names
pub after_is : (n base : ℕ) → after n base ≡ n + base
after_is zero base = omega arith
after_is (suc n) base = let e = after_is n base in omega arith

declared-names : (names : Names) (scope : Scope) (name other : List ℕ) (b : Bool) → Represents names scope → name ≡ other → is_some (found name names.symbols) ≡ b → is_declared other scope ≡ b
declared-names names scope name other b r same e =
    sym (ap is_some (r.same_symbols other) ∙ symbol-declared other scope) ∙ ap (λ n. is_some (found n names.symbols)) (sym same) ∙ e

pub counted : (names : Names) (scope : Scope) → Represents names scope → length names.gates.items ≡ gate_count scope
counted names scope r = sym (length-map names.gates.items kept_body) ∙ ap length r.same_gates ∙ kept-length scope

any-names : (names : Names) (scope : Scope) (ns : List (List ℕ)) → Represents names scope
    → list_any (λ name. is_some (found name names.symbols)) ns ≡ list_any (λ name. is_declared name scope) ns
any-names names scope [] r = refl
any-names names scope (name ∷ ns) r =
    ap₂ (λ a b. a || b) (ap is_some (r.same_symbols name) ∙ symbol-declared name scope) (any-names names scope ns r)

pub any-first : (names : Names) (scope : Scope) (ns : List (List ℕ)) (b : Bool) → Represents names scope → ns ≡ map (λ form. form.name) first_gates
    → b ≡ list_any (λ name. is_some (found name names.symbols)) ns → list_any (λ form. is_declared form.name scope) first_gates ≡ b
any-first names scope ns b r same e = sym (e ∙ any-names names scope ns r ∙ ap (list_any (λ name. is_declared name scope)) same)

-- ---- what is left of a table
pub rest_is : {A : Type 0} (xs : List A) (default : A) → 1 ≤ length xs → xs ≡ get_or xs 0 default ∷ take (length xs - 1) (drop 1 xs)
rest_is [] default some = absurd (omega (arith, some))
rest_is (x ∷ xs) default some = ap (λ rest. x ∷ rest) (sym (take_rest (x ∷ xs) 1))

-- ---- the first gates
-- the names represent a scope that the gates left in the table bring to the one after all
pub record FirstLeft (names : Names) (all : Scope) (base : ℕ) (gates : List HeaderGate) : Type 0 where
  pub forms : List GateForm
  pub scope : Scope
  pub represents : Represents names scope
  pub rows : AreFirstRows gates forms base scope
  pub faultless : AreFirstFaultless forms scope
  pub after : with_first forms scope ≡ with_first first_gates all

pub first-start : (names : Names) (all : Scope) (base : ℕ) (table : List HeaderGate) → AreFirstRows table first_gates (gate_count all) all → Represents names all → base ≡ gate_count all
    → list_any (λ form. is_declared form.name all) first_gates ≡ false → FirstLeft names all base table
first-start names all base table rows r e none = record {
  forms = first_gates;
  scope = all;
  represents = r;
  rows = subst (λ n. AreFirstRows table first_gates n all) (sym e) rows;
  faultless = first_faultless all none;
  after = refl;
}

pub first-step : (before later : Names) (all : Scope) (base : ℕ) (gate : HeaderGate) (gates : List HeaderGate) → FirstLeft before all base (gate ∷ gates)
    → DeclaresGate before later gate.name.now gate.angles gate.qubits (body_after base gate) false → FirstLeft later all base gates
first-step before later all base gate gates l declares = go l.forms l.rows l.faultless l.after where
  go : (forms : List GateForm) → AreFirstRows (gate ∷ gates) forms base l.scope → AreFirstFaultless forms l.scope → with_first forms l.scope ≡ with_first first_gates all → FirstLeft later all base gates
  go [] rows f after = absurd rows
  go (form ∷ forms) rows f after =
      let row : IsRow base l.scope gate form = rows.0 in
      record {
        forms = forms;
        scope = declared form.name (Gate form) ∷ l.scope;
        represents = declares l.scope form l.represents row.0 row.1 row.2 row.3 (sound-from l.scope form f.0) tt;
        rows = rows.1;
        faultless = f.1;
        after = after;
      }

pub first-end : (names : Names) (all : Scope) (base : ℕ) → FirstLeft names all base [] → Represents names (with_first first_gates all)
first-end names all base l = go l.forms l.rows l.after where
  go : (forms : List GateForm) → AreFirstRows [] forms base l.scope → with_first forms l.scope ≡ with_first first_gates all → Represents names (with_first first_gates all)
  go [] rows after = subst (Represents names) after l.represents
  go (form ∷ forms) rows after = absurd rows

-- ---- scopes in which the names of another one are kept as the same
module _ (before after : Scope) (k : Keeps symbol_of before after) where
  same-called : (gate : Callee) → knows_gate before gate ≡ true → called_for (kept_names after) gate ≡ called_for (kept_names before) gate
  same-called (Declared name) e = ap (λ s. called_gate.Gate (number_in s)) (k.same name e)
  same-called _ e = refl

  same-calls : (parameters qubits : FormalPlaces) (body : List BodySentence) → list_all (knows before) body ≡ true
      → kept_calls (kept_names after) parameters qubits body ≡ kept_calls (kept_names before) parameters qubits body
  same-calls parameters qubits [] e = refl
  same-calls parameters qubits (BodyApplied a ∷ body) e =
      let p : (knows_gate before a.gate ≡ true) × (list_all (knows before) body ≡ true) = and_parts (knows_gate before a.gate) (list_all (knows before) body) e in
      ap₂ (λ called calls. record { called = called; angles = map (numbered parameters) a.angles; qubits = map (λ name. place_or_zero (qubits name)) a.qubits } ∷ calls)
      (same-called a.gate p.0) (same-calls parameters qubits body p.1)
  same-calls parameters qubits (BodyBarrier names ∷ body) e = same-calls parameters qubits body e

-- ---- the further gates
-- a further gate is declared, or its name is
already-declared : (names : Names) (scope : Scope) (name : List ℕ) (form : GateForm) → Represents names scope → name ≡ form.name → is_some (found name names.symbols) ≡ true
    → Represents names (with_further (form ∷ []) scope)
already-declared names scope name form r same there =
    subst (λ there. Represents names (if there then scope else replaceable form ∷ scope)) (sym (declared-names names scope name form.name true r same there)) r

newly-declared : (before later : Names) (scope : Scope) (name : List ℕ) (form : GateForm) → Represents before scope → name ≡ form.name → is_some (found name before.symbols) ≡ false
    → (is_declared form.name scope ≡ false → Represents later (replaceable form ∷ scope)) → Represents later (with_further (form ∷ []) scope)
newly-declared before later scope name form r same none declares =
    let e : is_declared form.name scope ≡ false = declared-names before scope name form.name false r same none in
    subst (λ there. Represents later (if there then scope else replaceable form ∷ scope)) (sym e) (declares e)

pub record FurtherLeft (names : Names) (all : Scope) (base : ℕ) (gates : List HeaderGate) : Type 0 where
  pub forms : List GateForm
  pub scope : Scope
  pub represents : Represents names scope
  pub rows : AreFurtherRows gates forms base (with_first first_gates all)
  pub keeps : Keeps symbol_of (with_first first_gates all) scope
  pub faultless : AreFurtherFaultless forms scope
  pub after : with_further forms scope ≡ with_header all

pub further-start : (names : Names) (all : Scope) (base : ℕ) (table : List HeaderGate) → AreFurtherRows table further_gates (gate_count all) (with_first first_gates all)
    → Represents names (with_first first_gates all) → base ≡ gate_count all → FurtherLeft names all base table
unfolding with_header
further-start names all base table rows r e = record {
  forms = further_gates;
  scope = with_first first_gates all;
  represents = r;
  rows = subst (λ n. AreFurtherRows table further_gates n (with_first first_gates all)) (sym e) rows;
  keeps = record { still = λ name e. e; same = λ name e. refl };
  faultless = further_faultless all;
  after = refl;
}

-- a gate of the table less, by what the names then represent
further-less : (before later : Names) (all : Scope) (base : ℕ) (gate : HeaderGate) (gates : List HeaderGate) (l : FurtherLeft before all base (gate ∷ gates))
    → ((form : GateForm) → IsRow base l.scope gate form → (is_declared form.name l.scope ≡ false → wrong_in l.scope (DeclareGate form) ≡ None) → Represents later (with_further (form ∷ []) l.scope))
    → FurtherLeft later all base gates
further-less before later all base gate gates l represents = go l.forms l.rows l.faultless l.after where
  go : (forms : List GateForm) → AreFurtherRows (gate ∷ gates) forms base (with_first first_gates all) → AreFurtherFaultless forms l.scope → with_further forms l.scope ≡ with_header all → FurtherLeft later all base gates
  go [] rows f after = absurd rows
  go (form ∷ forms) rows f after =
      let row : IsRow base (with_first first_gates all) gate form = rows.0 in
      record {
        forms = forms;
        scope = with_further (form ∷ []) l.scope;
        represents = represents form (row.0, row.1, row.2, row.3 ∙ sym (same-calls (with_first first_gates all) l.scope l.keeps (places_among form.parameters) (places_among form.qubits) form.body rows.1)) f.0;
        rows = rows.2;
        keeps = keeps_step symbol_of (with_first first_gates all) l.scope form (symbol_in (gate_count l.scope) true (Gate form)) (λ name. refl) l.keeps;
        faultless = f.1;
        after = after;
      }

pub further-passed : (names : Names) (all : Scope) (base : ℕ) (gate : HeaderGate) (gates : List HeaderGate) → FurtherLeft names all base (gate ∷ gates)
    → is_some (found gate.name.now names.symbols) ≡ true → FurtherLeft names all base gates
further-passed names all base gate gates l there =
    further-less names names all base gate gates l (λ form row right. already-declared names l.scope gate.name.now form l.represents row.0 there)

pub further-step : (before later : Names) (all : Scope) (base : ℕ) (gate : HeaderGate) (gates : List HeaderGate) → FurtherLeft before all base (gate ∷ gates)
    → is_some (found gate.name.now before.symbols) ≡ false
    → DeclaresGate before later gate.name.now gate.angles gate.qubits (body_after base gate) true → FurtherLeft later all base gates
further-step before later all base gate gates l none declares =
    further-less before later all base gate gates l
    (λ form row right. newly-declared before later l.scope gate.name.now form l.represents row.0 none
    (λ e. declares l.scope form l.represents row.0 row.1 row.2 row.3 (sound-from l.scope form (right e)) e))

pub further-end : (names : Names) (all : Scope) (base : ℕ) → FurtherLeft names all base [] → Represents names (with_header all)
further-end names all base l = go l.forms l.rows l.after where
  go : (forms : List GateForm) → AreFurtherRows [] forms base (with_first first_gates all) → with_further forms l.scope ≡ with_header all → Represents names (with_header all)
  go [] rows after = subst (Represents names) after l.represents
  go (form ∷ forms) rows after = absurd rows
