-- The signs with which parts end: a part has one of them as its last token, and none before. So where one stands among tokens
-- that no part begins, none begins them whatever follows.
use Rattle.std.proofs.Common.{◌≡◌, ◌⊎◌, inl, inr, ℕ, true, false, ◌||◌, List, [], ◌∷◌, ◌++◌, Option, None, Some, refl, sym, ap, ap₂, ◌∙◌, append_assoc, arith, length, length-append}
use Rattle.std.specs.List.{list_any}
use Rattle.std.proofs.lemmas.List.Folds.{list_any-append}
use Rattle.qasm_lexer.specs.declared.token.TokenKind.{TokenKind}
use Rattle.qasm_lexer.specs.declared.token.TokenKind.TheVariants as kind
use Rattle.qasm_lexer.specs.declared.token.Token.{Token}
use Rattle.qasm_lexer.specs.Tokens.{Lexeme, lexemes}
use Rattle.qasm_reader.specs.declared.expression.Function.{Function}
use Rattle.qasm_reader.specs.Syntax.{Formula, Operand, Callee, Declared, U, Cx, Action, Applied, Measured, Reset, BodySentence, BodyApplied, BodyBarrier, Sentence, Version, Include, QubitRegister, BitRegister, DeclareGate, Opaque, If, Barrier, Act}
use Rattle.qasm_reader.specs.Grammar.{◌⋅◌, Sign, Word, Repeated, IsCommaList, IsOptionalList, function_kind, IsExpression, OneTerm, Sum, Difference, IsTerm, OnePower, Product, Quotient, IsPower, OneFactor, ToThePower, IsFactor, Negative, RealNumber, WholeNumber, PiWord, Parameter, InParentheses, ValueOf, IsIdentifier, IsName, IsIndex, IsArgument, IsArguments, IsIdentifiers, IsAngles, IsParameters, IsQuantumOperation, IsBodyStatement, IsStatement}
use Rattle.qasm_reader.specs.Parts.{ends_part, has_end}
use Rattle.qasm_reader.specs.Internal.Taking.{Heading}
use Rattle.qasm_reader.proofs.Statements.{IsOpening}
use Rattle.qasm_reader.proofs.Steps.{Sound, each_function, not_none}
use Rattle.std.proofs.lemmas.Bool.{both_ways, or_parts}

-- ---- tests

pub has_end-tokens : (ts : List Token) → has_end (lexemes ts) ≡ list_any (λ (t : Token). ends_part t.kind) ts
has_end-tokens [] = refl
has_end-tokens (t ∷ ts) = ap (λ b. ends_part t.kind || b) (has_end-tokens ts)

-- ---- none of the signs

abbrev Free : (List Lexeme → Type 0) → Type 0
Free Is = (us : List Lexeme) → Is us → has_end us ≡ false

append_free : (us vs : List Lexeme) → has_end us ≡ false → has_end vs ≡ false → has_end (us ++ vs) ≡ false
append_free us vs a b = list_any-append (λ t. ends_part t.kind) us vs ∙ ap₂ (λ x y. x || y) a b

one_free : (t : Lexeme) (k : TokenKind) → t.kind ≡ k → ends_part k ≡ false → has_end (t ∷ []) ≡ false
one_free t k is free = ap (λ b. b || false) (ap ends_part is ∙ free)

sign_free : (k : TokenKind) → ends_part k ≡ false → Free (Sign k)
sign_free k free us s = ap has_end s.2 ∙ one_free s.0 k s.1 free

word_free : (k : TokenKind) (text : List ℕ) → ends_part k ≡ false → Free (Word k text)
word_free k text free us w = ap has_end w.3 ∙ one_free w.0 k w.1 free

then_free : (Front Back : List Lexeme → Type 0) → Free Front → Free Back → Free (Front ⋅ Back)
then_free Front Back a b us s = ap has_end s.2 ∙ append_free s.0 s.1 (a s.0 s.3) (b s.1 s.4)

repeated_free : {A : Type 0} (Is : A → List Lexeme → Type 0) → ((x : A) → Free (Is x)) → (xs : List A) → Free (Repeated Is xs)
repeated_free Is free [] us s = ap has_end s
repeated_free Is free (x ∷ xs) us s = then_free (Is x) (Repeated Is xs) (free x) (repeated_free Is free xs) us s

comma_free : {A : Type 0} (Is : A → List Lexeme → Type 0) → ((x : A) → Free (Is x)) → (xs : List A) → Free (IsCommaList Is xs)
comma_free Is free [] us s = absurd s
comma_free Is free (x ∷ xs) us s =
    then_free (Is x) (Repeated (λ y. Sign kind.Comma ⋅ Is y) xs) (free x)
    (repeated_free (λ y. Sign kind.Comma ⋅ Is y) (λ y. then_free (Sign kind.Comma) (Is y) (sign_free kind.Comma refl) (free y)) xs) us s

optional_free : {A : Type 0} (Is : A → List Lexeme → Type 0) → ((x : A) → Free (Is x)) → (xs : List A) → Free (IsOptionalList Is xs)
optional_free Is free [] us (inl s) = ap has_end s
optional_free Is free [] us (inr s) =
    then_free (Sign kind.LeftParenthesis) (Sign kind.RightParenthesis) (sign_free kind.LeftParenthesis refl) (sign_free kind.RightParenthesis refl) us s
optional_free Is free (x ∷ xs) us s =
    then_free (Sign kind.LeftParenthesis) (IsCommaList Is (x ∷ xs) ⋅ Sign kind.RightParenthesis) (sign_free kind.LeftParenthesis refl)
    (then_free (IsCommaList Is (x ∷ xs)) (Sign kind.RightParenthesis) (comma_free Is free (x ∷ xs)) (sign_free kind.RightParenthesis refl)) us s

-- ---- expressions

between_free : (us vs : List Lexeme) (t : Lexeme) (k : TokenKind) → t.kind ≡ k → ends_part k ≡ false → has_end us ≡ false → has_end vs ≡ false → has_end (us ++ t ∷ vs) ≡ false
between_free us vs t k is free a b = append_free us (t ∷ vs) a (append_free (t ∷ []) vs (one_free t k is free) b)

function_free : (f : Function) → ends_part (function_kind f) ≡ false
function_free = each_function (λ f. ends_part (function_kind f) ≡ false) refl refl refl refl refl refl

mutual
  expression_free : (f : Formula) (us : List Lexeme) → IsExpression f us → has_end us ≡ false
  expression_free f us (OneTerm d) = term_free f us d
  expression_free f us (Sum {f = g} {g = h} {us = xs} {vs = ys} t d is e) = between_free xs ys t kind.Plus is refl (expression_free g xs d) (term_free h ys e)
  expression_free f us (Difference {f = g} {g = h} {us = xs} {vs = ys} t d is e) = between_free xs ys t kind.Minus is refl (expression_free g xs d) (term_free h ys e)

  term_free : (f : Formula) (us : List Lexeme) → IsTerm f us → has_end us ≡ false
  term_free f us (OnePower d) = power_free f us d
  term_free f us (Product {f = g} {g = h} {us = xs} {vs = ys} t d is e) = between_free xs ys t kind.Star is refl (term_free g xs d) (power_free h ys e)
  term_free f us (Quotient {f = g} {g = h} {us = xs} {vs = ys} t d is e) = between_free xs ys t kind.Slash is refl (term_free g xs d) (power_free h ys e)

  power_free : (f : Formula) (us : List Lexeme) → IsPower f us → has_end us ≡ false
  power_free f us (OneFactor d) = factor_free f us d
  power_free f us (ToThePower {f = g} {g = h} {us = xs} {vs = ys} t d is e) = between_free xs ys t kind.Caret is refl (factor_free g xs d) (power_free h ys e)

  factor_free : (f : Formula) (us : List Lexeme) → IsFactor f us → has_end us ≡ false
  factor_free f us (Negative {f = g} {us = xs} t is d) = between_free [] xs t kind.Minus is refl refl (factor_free g xs d)
  factor_free f us (RealNumber t is) = one_free t kind.Real is refl
  factor_free f us (WholeNumber t is) = one_free t kind.Natural is refl
  factor_free f us (PiWord t is) = one_free t kind.Pi is refl
  factor_free f us (Parameter t is) = one_free t kind.Identifier is refl
  factor_free f us (InParentheses {f = g} {us = xs} left right is d is') =
      between_free [] (xs ++ right ∷ []) left kind.LeftParenthesis is refl refl
      (append_free xs (right ∷ []) (expression_free g xs d) (one_free right kind.RightParenthesis is' refl))
  factor_free f us (ValueOf {f = g} {us = xs} function word left right is is' d is'') =
      between_free [] (left ∷ xs ++ right ∷ []) word (function_kind function) is (function_free function) refl
      (between_free [] (xs ++ right ∷ []) left kind.LeftParenthesis is' refl refl
      (append_free xs (right ∷ []) (expression_free g xs d) (one_free right kind.RightParenthesis is'' refl)))

-- ---- names and arguments

identifier_free : (name : List ℕ) → Free (IsIdentifier name)
identifier_free name = word_free kind.Identifier name refl

name_free : (c : Callee) → Free (IsName c)
name_free (Declared name) = identifier_free name
name_free U = sign_free kind.U refl
name_free Cx = sign_free kind.Cx refl

index_free : (index : Option (List ℕ)) → Free (IsIndex index)
index_free None us s = ap has_end s
index_free (Some index) us s =
    then_free (Sign kind.LeftBracket) (Word kind.Natural index ⋅ Sign kind.RightBracket) (sign_free kind.LeftBracket refl)
    (then_free (Word kind.Natural index) (Sign kind.RightBracket) (word_free kind.Natural index refl) (sign_free kind.RightBracket refl)) us s

argument_free : (argument : Operand) → Free (IsArgument argument)
argument_free argument = then_free (IsIdentifier argument.register) (IsIndex argument.index) (identifier_free argument.register) (index_free argument.index)

arguments_free : (arguments : List Operand) → Free (IsArguments arguments)
arguments_free = comma_free IsArgument argument_free

identifiers_free : (names : List (List ℕ)) → Free (IsIdentifiers names)
identifiers_free = comma_free IsIdentifier identifier_free

parameters_free : (names : List (List ℕ)) → Free (IsParameters names)
parameters_free = optional_free IsIdentifier identifier_free

angles_free : (angles : List Formula) → Free (IsAngles angles)
angles_free = optional_free IsExpression expression_free

-- ---- none of the signs but the last token

-- these tokens have such a sign nowhere before the last one
abbrev pub EndsOnce : List Lexeme → Type 0
EndsOnce us = (front : List Lexeme) × (last : Lexeme) × (us ≡ front ++ last ∷ []) × (has_end front ≡ false)

abbrev Once : (List Lexeme → Type 0) → Type 0
Once Is = (us : List Lexeme) → Is us → EndsOnce us

sign_once : (k : TokenKind) → Once (Sign k)
sign_once k us s = ([], s.0, s.2, refl)

then_once : (Front Back : List Lexeme → Type 0) → Free Front → Once Back → Once (Front ⋅ Back)
then_once Front Back a b us s =
    let e = b s.1 s.4 in
    (s.0 ++ e.0, e.1, s.2 ∙ ap (λ x. s.0 ++ x) e.2 ∙ sym (append_assoc s.0 e.0 (e.1 ∷ [])), append_free s.0 e.0 (a s.0 s.3) e.3)

operation_once : (a : Action) → Once (IsQuantumOperation a)
operation_once (Applied a) =
    then_once (IsName a.gate) (IsAngles a.angles ⋅ IsArguments a.qubits ⋅ Sign kind.Semicolon) (name_free a.gate)
    (then_once (IsAngles a.angles) (IsArguments a.qubits ⋅ Sign kind.Semicolon) (angles_free a.angles)
    (then_once (IsArguments a.qubits) (Sign kind.Semicolon) (arguments_free a.qubits) (sign_once kind.Semicolon)))
operation_once (Measured from to) =
    then_once (Sign kind.Measure) (IsArgument from ⋅ Sign kind.Arrow ⋅ IsArgument to ⋅ Sign kind.Semicolon) (sign_free kind.Measure refl)
    (then_once (IsArgument from) (Sign kind.Arrow ⋅ IsArgument to ⋅ Sign kind.Semicolon) (argument_free from)
    (then_once (Sign kind.Arrow) (IsArgument to ⋅ Sign kind.Semicolon) (sign_free kind.Arrow refl)
    (then_once (IsArgument to) (Sign kind.Semicolon) (argument_free to) (sign_once kind.Semicolon))))
operation_once (Reset argument) =
    then_once (Sign kind.Reset) (IsArgument argument ⋅ Sign kind.Semicolon) (sign_free kind.Reset refl)
    (then_once (IsArgument argument) (Sign kind.Semicolon) (argument_free argument) (sign_once kind.Semicolon))

pub body_once : (s : BodySentence) → Once (IsBodyStatement s)
body_once (BodyApplied a) =
    then_once (IsName a.gate) (IsAngles a.angles ⋅ IsIdentifiers a.qubits ⋅ Sign kind.Semicolon) (name_free a.gate)
    (then_once (IsAngles a.angles) (IsIdentifiers a.qubits ⋅ Sign kind.Semicolon) (angles_free a.angles)
    (then_once (IsIdentifiers a.qubits) (Sign kind.Semicolon) (identifiers_free a.qubits) (sign_once kind.Semicolon)))
body_once (BodyBarrier qubits) =
    then_once (Sign kind.Barrier) (IsIdentifiers qubits ⋅ Sign kind.Semicolon) (sign_free kind.Barrier refl)
    (then_once (IsIdentifiers qubits) (Sign kind.Semicolon) (identifiers_free qubits) (sign_once kind.Semicolon))

-- the first token is no `gate`
abbrev pub NoGate : List Lexeme → Type 0
NoGate us = (t : Lexeme) (more : List Lexeme) → us ≡ t ∷ more → t.kind ≡ kind.Gate → ⊥

gate_begins : (Back : List Lexeme → Type 0) (us : List Lexeme) → (Sign kind.Gate ⋅ Back) us → NoGate us → ⊥
gate_begins Back us s none = none s.3.0 s.1 (s.2 ∙ ap (λ x. x ++ s.1) s.3.2) s.3.1

register_once : (k : TokenKind) → ends_part k ≡ false → (name size : List ℕ)
    → Once (Sign k ⋅ IsIdentifier name ⋅ IsIndex (Some size) ⋅ Sign kind.Semicolon)
register_once k free name size =
    then_once (Sign k) (IsIdentifier name ⋅ IsIndex (Some size) ⋅ Sign kind.Semicolon) (sign_free k free)
    (then_once (IsIdentifier name) (IsIndex (Some size) ⋅ Sign kind.Semicolon) (identifier_free name)
    (then_once (IsIndex (Some size)) (Sign kind.Semicolon) (index_free (Some size)) (sign_once kind.Semicolon)))

word_once : (k l : TokenKind) (text : List ℕ) → ends_part k ≡ false → ends_part l ≡ false → Once (Sign k ⋅ Word l text ⋅ Sign kind.Semicolon)
word_once k l text free free' =
    then_once (Sign k) (Word l text ⋅ Sign kind.Semicolon) (sign_free k free)
    (then_once (Word l text) (Sign kind.Semicolon) (word_free l text free') (sign_once kind.Semicolon))

-- what begins as a heading, up to its last sign
heading_once : (k : TokenKind) (name : List ℕ) (parameters qubits : List (List ℕ)) → Once (IsIdentifier name ⋅ IsParameters parameters ⋅ IsIdentifiers qubits ⋅ Sign k)
heading_once k name parameters qubits =
    then_once (IsIdentifier name) (IsParameters parameters ⋅ IsIdentifiers qubits ⋅ Sign k) (identifier_free name)
    (then_once (IsParameters parameters) (IsIdentifiers qubits ⋅ Sign k) (parameters_free parameters)
    (then_once (IsIdentifiers qubits) (Sign k) (identifiers_free qubits) (sign_once k)))

pub opening_once : (a : Heading) → Once (IsOpening a)
opening_once a = heading_once kind.LeftBrace a.0 a.1.0 a.1.1

pub statement_once : (s : Sentence) (us : List Lexeme) → NoGate us → IsStatement s us → EndsOnce us
statement_once (Version real) us none is = word_once kind.Openqasm kind.Real real refl refl us is
statement_once (Include text) us none is = word_once kind.Include kind.Text text refl refl us is
statement_once (QubitRegister name size) us none is = register_once kind.Qreg refl name size us is
statement_once (BitRegister name size) us none is = register_once kind.Creg refl name size us is
statement_once (DeclareGate gate) us none is =
    absurd (gate_begins (IsIdentifier gate.name ⋅ IsParameters gate.parameters ⋅ IsIdentifiers gate.qubits ⋅ Sign kind.LeftBrace ⋅ Repeated IsBodyStatement gate.body ⋅ Sign kind.RightBrace) us is none)
statement_once (Opaque name parameters qubits) us none is =
    then_once (Sign kind.Opaque) (IsIdentifier name ⋅ IsParameters parameters ⋅ IsIdentifiers qubits ⋅ Sign kind.Semicolon) (sign_free kind.Opaque refl)
    (heading_once kind.Semicolon name parameters qubits) us is
statement_once (If register value action) us none is =
    then_once (Sign kind.If) (Sign kind.LeftParenthesis ⋅ IsIdentifier register ⋅ Sign kind.Equals ⋅ Word kind.Natural value ⋅ Sign kind.RightParenthesis ⋅ IsQuantumOperation action) (sign_free kind.If refl)
    (then_once (Sign kind.LeftParenthesis) (IsIdentifier register ⋅ Sign kind.Equals ⋅ Word kind.Natural value ⋅ Sign kind.RightParenthesis ⋅ IsQuantumOperation action) (sign_free kind.LeftParenthesis refl)
    (then_once (IsIdentifier register) (Sign kind.Equals ⋅ Word kind.Natural value ⋅ Sign kind.RightParenthesis ⋅ IsQuantumOperation action) (identifier_free register)
    (then_once (Sign kind.Equals) (Word kind.Natural value ⋅ Sign kind.RightParenthesis ⋅ IsQuantumOperation action) (sign_free kind.Equals refl)
    (then_once (Word kind.Natural value) (Sign kind.RightParenthesis ⋅ IsQuantumOperation action) (word_free kind.Natural value refl)
    (then_once (Sign kind.RightParenthesis) (IsQuantumOperation action) (sign_free kind.RightParenthesis refl) (operation_once action)))))) us is
statement_once (Barrier arguments) us none is =
    then_once (Sign kind.Barrier) (IsArguments arguments ⋅ Sign kind.Semicolon) (sign_free kind.Barrier refl)
    (then_once (IsArguments arguments) (Sign kind.Semicolon) (arguments_free arguments) (sign_once kind.Semicolon)) us is
statement_once (Act action) us none is = operation_once action us is

-- ---- what follows doesn't matter

pub head_same : (t u : Lexeme) (ts us : List Lexeme) → t ∷ ts ≡ u ∷ us → t ≡ u
head_same t u ts us e = cc

tail_same : (t u : Lexeme) (ts us : List Lexeme) → t ∷ ts ≡ u ∷ us → ts ≡ us
tail_same t u ts us e = cc

-- the tokens begin with those of the prefix, or these go on behind them
abbrev IsSplit : List Lexeme → List Lexeme → Type 0
IsSplit xs us = ((z : List Lexeme) × (xs ≡ us ++ z)) ⊎ ((t : Lexeme) × (z : List Lexeme) × (us ≡ xs ++ t ∷ z))

split_more : (x u : Lexeme) (xs us : List Lexeme) → x ≡ u → IsSplit xs us → IsSplit (x ∷ xs) (u ∷ us)
split_more x u xs us e (inl (z, p)) = inl (z, ap₂ (λ (a : Lexeme) (b : List Lexeme). a ∷ b) e p)
split_more x u xs us e (inr (t, z, p)) = inr (t, z, ap₂ (λ (a : Lexeme) (b : List Lexeme). a ∷ b) (sym e) p)

split : (xs ys us vs : List Lexeme) → xs ++ ys ≡ us ++ vs → IsSplit xs us
split xs ys [] vs e = inl (xs, refl)
split [] ys (u ∷ us) vs e = inr (u, us, refl)
split (x ∷ xs) ys (u ∷ us) vs e = split_more x u xs us (head_same x u (xs ++ ys) (us ++ vs) e) (split xs ys us vs (tail_same x u (xs ++ ys) (us ++ vs) e))

front_free : (xs ys : List Lexeme) → has_end (xs ++ ys) ≡ false → has_end xs ≡ false
front_free xs ys e = (or_parts (has_end xs) (has_end ys) (sym (list_any-append (λ t. ends_part t.kind) xs ys) ∙ e)).0

longer : (front xs z z' : List Lexeme) (last t t' : Lexeme) → front ++ last ∷ [] ≡ xs ++ t ∷ z → xs ≡ front ++ t' ∷ z' → ⊥
longer front xs z z' last t t' e f =
    absurd (omega (arith, ap length e, ap length f, length-append front (last ∷ []), length-append xs (t ∷ z), length-append front (t' ∷ z')))

-- what stands before a part's last token has none of the signs
free_by : (front xs z : List Lexeme) (last t : Lexeme) → front ++ last ∷ [] ≡ xs ++ t ∷ z → has_end front ≡ false → IsSplit front xs → has_end xs ≡ false
free_by front xs z last t e free (inl (w, p)) = front_free xs w (ap has_end (sym p) ∙ free)
free_by front xs z last t e free (inr (u, w, p)) = absurd (longer front xs z w last t u e p)

before_last : (us xs z : List Lexeme) (t : Lexeme) → us ≡ xs ++ t ∷ z → EndsOnce us → has_end xs ≡ false
before_last us xs z t e once =
    let same : once.0 ++ once.1 ∷ [] ≡ xs ++ t ∷ z = sym once.2 ∙ e in
    free_by once.0 xs z once.1 t same once.3 (split once.0 (once.1 ∷ []) xs (t ∷ z) same)

-- what a step reads of tokens that go on it reads of themselves, or it goes past them
module _ {A : Type 0} (item : List Lexeme → Option (A × List Lexeme)) (Is : A → List Lexeme → Type 0) (sound : Sound item Is)
    (complete : (a : A) (us rest : List Lexeme) → Is a us → item (us ++ rest) ≡ Some (a, rest)) (ts more : List Lexeme)
    (once : (a : A) (us rest : List Lexeme) → ts ++ more ≡ us ++ rest → Is a us → EndsOnce us) (end : has_end ts ≡ true) (none : item ts ≡ None) where
  reads_none : (a : A) (us rest : List Lexeme) → ts ++ more ≡ us ++ rest → Is a us → IsSplit ts us → ⊥
  reads_none a us rest e is (inl (z, p)) =
      let read : item ts ≡ Some (a, z) = ap item p ∙ complete a us z is in
      not_none (a, z) (item ts) read none
  reads_none a us rest e is (inr (t, z, p)) = both_ways (has_end ts) (before_last us ts z t p (once a us rest e is)) end

  read_of : (o : Option (A × List Lexeme)) → item (ts ++ more) ≡ o → o ≡ None
  read_of None e = refl
  read_of (Some (a, rest)) e = let t = sound (ts ++ more) a rest e in absurd (reads_none a t.0 rest t.1 t.2 (split ts more t.0 rest t.1))

  pub reads_none_later : item (ts ++ more) ≡ None
  reads_none_later = read_of (item (ts ++ more)) refl
