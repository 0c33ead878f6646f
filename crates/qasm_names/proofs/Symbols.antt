-- What names are kept as says what they mean.
use Rattle.std.proofs.Common.{◌≡◌, ℕ, ◌+◌, Bool, true, false, ◌||◌, ◌&&◌, not, if◌then◌else◌, List, [], ◌∷◌, ◌++◌, length, Option, Some, refl, sym, ap, subst, ◌∙◌, arith, length-append}
use Rattle.std.specs.Borrow.{Bor}
use Rattle.std.specs.BTreeMap.{BTreeMap, UpdatesBy}
use Rattle.std.specs.Cmp.Lexicographic.{slice_cmp}
use Rattle.std.specs.Ordering.{nat_cmp}
use Rattle.std.specs.Option.{is_some}
use Rattle.std.specs.Str.{bytes_eq}
use Rattle.std.proofs.lemmas.Map.Text.{btree_map_updates_str}
use Rattle.std.proofs.lemmas.Slice.Eq.{bytes_eq-Decides}
use Rattle.qasm_names.specs.declared.names.Symbol.{Symbol}
use Rattle.qasm_names.specs.Kept.{gate_count, gates_in, kept_gates, kept_in, symbol_of, symbol_in, symbol_bits, symbol_shape, symbol_register, symbol_taken, found, IsSound, IsSoundMeaning, IsFresh}
use Rattle.qasm_scope.proofs.HeaderScope.{free-taken}
use Rattle.qasm_scope.specs.Scope.{Scope, Declaration, Meaning, Qubits, Bits, Gate, bit_register, meaning_of, is_declared, is_taken, qubit_register, shape_in}

-- what a symbol says of a gate and of registers is what its meaning says
abbrev pub Says : Option Symbol → Option Meaning → Type 0
Says symbol meaning =
    (symbol_shape symbol ≡ shape_in meaning) × (symbol_register symbol ≡ qubit_register meaning) × (symbol_bits symbol ≡ bit_register meaning)

says-at : (b replaceable : Bool) (n : ℕ) (m : Meaning) (symbol : Option Symbol) (meaning : Option Meaning) → Says symbol meaning
    → Says (if b then Some (symbol_in n replaceable m) else symbol) (if b then Some m else meaning)
says-at false replaceable n m symbol meaning h = h
says-at true replaceable n (Gate form) symbol meaning h = (refl, refl, refl)
says-at true replaceable n _ symbol meaning h = (refl, refl, refl)

pub symbol-says : (name : List ℕ) (scope : Scope) → Says (symbol_of name scope) (meaning_of name scope)
symbol-says name [] = (refl, refl, refl)
symbol-says name (d ∷ scope) = says-at (bytes_eq d.name name) d.replaceable (gate_count scope) d.meaning (symbol_of name scope) (meaning_of name scope) (symbol-says name scope)

declared-at : (b : Bool) (s : Symbol) (symbol : Option Symbol) (rest : Bool) → is_some symbol ≡ rest → is_some (if b then Some s else symbol) ≡ (b || rest)
declared-at true s symbol rest h = refl
declared-at false s symbol rest h = h

pub symbol-declared : (name : List ℕ) (scope : Scope) → is_some (symbol_of name scope) ≡ is_declared name scope
symbol-declared name [] = refl
symbol-declared name (d ∷ scope) = declared-at (bytes_eq d.name name) (symbol_in (gate_count scope) d.replaceable d.meaning) (symbol_of name scope) (is_declared name scope) (symbol-declared name scope)

taken-at : (b replaceable : Bool) (n : ℕ) (m : Meaning) (scope : Scope) (symbol : Option Symbol) (rest : Bool) → symbol_taken symbol ≡ rest
    → IsSoundMeaning scope m replaceable → (b ≡ true → replaceable ≡ true → rest ≡ false)
    → symbol_taken (if b then Some (symbol_in n replaceable m) else symbol) ≡ ((b && not replaceable) || rest)
taken-at true true n (Gate form) scope symbol rest h sound fresh = sym (fresh refl refl)
taken-at true true n (Qubits first size) scope symbol rest h sound fresh = absurd (let e = sound.1 in cc)
taken-at true true n (Bits first size) scope symbol rest h sound fresh = absurd (let e = sound.1 in cc)
taken-at false replaceable n m scope symbol rest h sound fresh = h
taken-at true false n (Gate form) scope symbol rest h sound fresh = refl
taken-at true false n _ scope symbol rest h sound fresh = refl

fresh-taken : (d : Declaration) (replaceable : Bool) (name : List ℕ) (scope : Scope) → IsFresh d.name replaceable scope → bytes_eq d.name name ≡ true → replaceable ≡ true → is_taken name scope ≡ false
fresh-taken d true name scope fresh same r =
    free-taken name scope (subst (λ n. is_declared n scope ≡ false) ((bytes_eq-Decides d.name name).0 same) fresh)
fresh-taken d false name scope fresh same r = absurd (cc)

pub symbol-taken : (name : List ℕ) (scope : Scope) → IsSound scope → symbol_taken (symbol_of name scope) ≡ is_taken name scope
symbol-taken name [] sound = refl
symbol-taken name (d ∷ scope) sound =
    taken-at (bytes_eq d.name name) d.replaceable (gate_count scope) d.meaning scope (symbol_of name scope) (is_taken name scope)
    (symbol-taken name scope sound.2) sound.0 (fresh-taken d d.replaceable name scope sound.1)

kept-length-at : (m : Meaning) (scope : Scope) → length (kept_gates scope) ≡ gate_count scope → length (kept_gates scope ++ kept_in scope m) ≡ gates_in m + gate_count scope
kept-length-at (Qubits first size) scope h = simp length-append (omega arith)
kept-length-at _ scope h = simp length-append (omega arith)

pub kept-length : (scope : Scope) → length (kept_gates scope) ≡ gate_count scope
kept-length [] = refl
kept-length (d ∷ scope) = let n = kept-length scope in kept-length-at d.meaning scope n

-- what is found in the map after a declaration
pub found-declared : (name : List ℕ) (symbols later : BTreeMap (Bor (List ℕ)) Symbol) (s : Symbol) (d : Declaration) (scope : Scope)
    → UpdatesBy (λ x y. slice_cmp nat_cmp x.now y.now) (λ k. slice_cmp nat_cmp name k.now) symbols later (Some s)
    → ((q : List ℕ) → found q symbols ≡ symbol_of q scope) → d.name ≡ name → s ≡ symbol_in (gate_count scope) d.replaceable d.meaning
    → (q : List ℕ) → found q later ≡ symbol_of q (d ∷ scope)
found-declared name symbols later s d scope h before en es q =
    btree_map_updates_str name symbols later (Some s) h q
    ∙ ap (λ r. if bytes_eq name q then Some s else r) (before q)
    ∙ ap (λ t. if bytes_eq name q then Some t else symbol_of q scope) es
    ∙ ap (λ n. if bytes_eq n q then Some (symbol_in (gate_count scope) d.replaceable d.meaning) else symbol_of q scope) (sym en)
