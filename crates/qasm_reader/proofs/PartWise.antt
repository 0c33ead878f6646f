-- Programs part by part: what is read from the start of the tokens, and what it makes of a gate whose body was read so far.
use Rattle.std.specs.Prelude.{if◌then◌else◌}
use Rattle.std.proofs.Common.{◌≡◌, ◌<◌, ℕ, Bool, true, false, ◌||◌, Option, List, [], ◌∷◌, ◌++◌, length, length-append, None, Some, Ok, Err, refl, sym, ap, ◌∙◌, subst, append_assoc, append-nil, arith}
use Rattle.std.specs.Borrow.{Bor}
use Rattle.qasm_lexer.specs.declared.token.Token.{Token}
use Rattle.qasm_lexer.specs.declared.token.TokenKind.{TokenKind}
use Rattle.qasm_lexer.specs.declared.token.TokenKind.TheVariants as kind
use Rattle.qasm_lexer.specs.Tokens.{Lexeme, lexeme, lexemes}
use Rattle.qasm_reader.specs.declared.parts.BodyPart.{BodyPart}
use Rattle.qasm_reader.specs.declared.parts.BodyPart.TheVariants.{Statement, End}
use Rattle.qasm_reader.specs.declared.program.GateHeading.{GateHeading}
use Rattle.qasm_reader.specs.declared.step_error.StepError.{StepError}
use Rattle.qasm_reader.specs.declared.step_error.StepError.TheVariants.{Misfit, NoMemory}
use Rattle.qasm_reader.specs.Grammar.{BeginsWithStatement, IsBodyStatement, IsFirstStatement, IsStatement, Repeated}
use Rattle.qasm_reader.specs.Parts.{BeginNone, IsBehind, IsHeading, IsInBody, IsNextInBody, ends_part, has_end, with_statement}
use Rattle.qasm_reader.specs.Syntax.{Act, Action, BodySentence, DeclareGate, GateForm, Sentence}
use Rattle.qasm_reader.specs.Views.{body_sentence, form_of}
use Rattle.qasm_reader.specs.Internal.PartReading.{IsBodyPart, IsPart}
use Rattle.qasm_reader.specs.Internal.Taking.{◌>>=◌, Fails, after, application, body_statement, heading_of, opening, same_kind, simple_by, simple_statement, statement, statement_by}
use Rattle.qasm_reader.proofs.Steps.{Took, after_takes, bind_is, bind_none}
use Rattle.qasm_reader.proofs.Lists.{repeated_then}
use Rattle.qasm_reader.proofs.Statements.{IsOpening, body_statement_again, body_statement_takes, opening_again, opening_takes, opening_none, statement_takes, gate_none, identifier_first, whole_gate, some_body, statement_again}
use Rattle.qasm_reader.proofs.Programs.{first_found, none_begins, none_in_none}
use Rattle.qasm_reader.proofs.Ends.{NoGate, body_once, head_same, opening_once, reads_none_later, statement_once}

-- ---- where no part begins

identifier_no_gate : (k : TokenKind) → k ≡ kind.Identifier → k ≡ kind.Gate → ⊥
identifier_no_gate k e f = absurd (let h : kind.Identifier ≡ kind.Gate = sym e ∙ f in cc)

later_end : (t : Lexeme) (ts : List Lexeme) → t.kind ≡ kind.Gate → has_end (t ∷ ts) ≡ true → has_end ts ≡ true
later_end t ts is e = ap (λ (k : TokenKind). ends_part k || has_end ts) (sym is) ∙ e

no_heading : (t : Lexeme) (ts : List Lexeme) → t.kind ≡ kind.Gate → opening ts ≡ None → BeginNone (t ∷ ts) (t ∷ ts)
no_heading t ts is none = record {
  none = none_begins (t ∷ ts) (opening_none t ts is none);
  none_later = λ end more.
      none_begins (t ∷ ts ++ more)
      (opening_none t (ts ++ more) is (reads_none_later opening IsOpening opening_takes opening_again ts more (λ a us rest e h. opening_once a us h) (later_end t ts is end) none));
}

no_gate : (t : Lexeme) (ts more us rest : List Lexeme) → (t.kind ≡ kind.Gate → ⊥) → t ∷ ts ++ more ≡ us ++ rest → NoGate us
no_gate t ts more us rest other e u vs first is = other (ap (λ (x : Lexeme). x.kind) (head_same t u (ts ++ more) (vs ++ rest) (e ∙ ap (λ (x : List Lexeme). x ++ rest) first)) ∙ is)

no_statement : (t : Lexeme) (ts : List Lexeme) → (t.kind ≡ kind.Gate → ⊥) → statement (t ∷ ts) ≡ None → BeginNone (t ∷ ts) (t ∷ ts)
no_statement t ts other none = record {
  none = none_begins (t ∷ ts) none;
  none_later = λ end more.
      none_begins (t ∷ ts ++ more)
      (reads_none_later statement IsStatement statement_takes (λ a us rest h. statement_again a us rest h tt) (t ∷ ts) more
      (λ a us rest e h. statement_once a us (no_gate t ts more us rest other e) h) end none);
}

pub nothing_begins : BeginNone [] []
nothing_begins = record { none = none_in_none; none_later = λ end more b. absurd (let h : ◌≡◌ {A = Bool} false true = end in cc) }

-- ---- parts of a program

pub heading_found : (tokens : List Token) (t : Token) (ts rest : List Token) (h : GateHeading) → tokens ≡ t ∷ ts → t.kind ≡ kind.Gate → opening (lexemes ts) ≡ Some (heading_of h, lexemes rest)
    → IsInBody t.place (form_of h []) (lexemes tokens) (lexemes rest)
heading_found tokens t ts rest h all is e =
    let o = opening_takes (lexemes ts) (heading_of h) (lexemes rest) e in
    record {
      heading = lexeme t ∷ o.0;
      body = [];
      same = ap lexemes all ∙ ap (λ (x : List Lexeme). lexeme t ∷ x) (o.1 ∙ ap (λ (x : List Lexeme). x ++ lexemes rest) (sym (append-nil o.0)));
      begins = (lexeme t, o.0, refl, refl);
      is_heading = (lexeme t ∷ [], o.0, refl, (lexeme t, is, refl), o.2);
      is_body = refl;
    }

pub heading_missing : (e : StepError) (tokens : List Token) (t : Token) (ts : List Token) → tokens ≡ t ∷ ts → t.kind ≡ kind.Gate → Fails e (opening (lexemes ts)) → IsPart (lexemes tokens) (Err e)
heading_missing NoMemory tokens t ts all is none = tt
heading_missing Misfit tokens t ts all is none = subst (λ (x : List Token). BeginNone (lexemes x) (lexemes x)) (sym all) (no_heading (lexeme t) (lexemes ts) is none)

statement_found : (tokens : List Token) (t : Token) (ts rest : List Token) (s : Sentence) → tokens ≡ t ∷ ts → statement (lexemes tokens) ≡ Some (s, lexemes rest)
    → IsFirstStatement (record { place = t.place; sentence = s }) (lexemes tokens) (lexemes rest)
statement_found tokens t ts rest s all e = first_found (lexemes tokens) t.place s (lexemes rest) (lexeme t, lexemes ts, ap lexemes all, refl) e

-- where no gate is declared
simple_kind : (k : TokenKind) → (k ≡ kind.Gate → ⊥) → (rest all : List Lexeme) → statement_by k rest all ≡ simple_by k rest all
simple_kind kind.Gate none rest all = absurd (none refl)
simple_kind _ none rest all = refl

simple : (t : Lexeme) (ts : List Lexeme) → (t.kind ≡ kind.Gate → ⊥) → statement (t ∷ ts) ≡ simple_statement (t ∷ ts)
unfolding statement simple_statement
simple t ts none = simple_kind t.kind none ts (t ∷ ts)

other_first : (tokens : List Token) (t : Token) (ts : List Token) → tokens ≡ t ∷ ts → (t.kind ≡ kind.Gate → ⊥) → statement (lexemes tokens) ≡ simple_statement (lexemes tokens)
other_first tokens t ts all none = subst (λ (x : List Token). statement (lexemes x) ≡ simple_statement (lexemes x)) (sym all) (simple (lexeme t) (lexemes ts) none)

pub simple_found : (tokens : List Token) (t : Token) (ts rest : List Token) (s : Sentence) → tokens ≡ t ∷ ts → (t.kind ≡ kind.Gate → ⊥) → simple_statement (lexemes tokens) ≡ Some (s, lexemes rest)
    → IsFirstStatement (record { place = t.place; sentence = s }) (lexemes tokens) (lexemes rest)
simple_found tokens t ts rest s all none e = statement_found tokens t ts rest s all (other_first tokens t ts all none ∙ e)

pub simple_missing : (e : StepError) (tokens : List Token) (t : Token) (ts : List Token) → tokens ≡ t ∷ ts → (t.kind ≡ kind.Gate → ⊥) → Fails e (simple_statement (lexemes tokens)) → IsPart (lexemes tokens) (Err e)
simple_missing NoMemory tokens t ts all other none = tt
simple_missing Misfit tokens t ts all other none =
    subst (λ (x : List Token). BeginNone (lexemes x) (lexemes x)) (sym all)
    (no_statement (lexeme t) (lexemes ts) other (ap (λ (x : List Token). statement (lexemes x)) (sym all) ∙ other_first tokens t ts all other ∙ none))

-- an application, where an identifier stands first
applied : (tokens : List Token) (t : Token) (ts : List Token) → tokens ≡ t ∷ ts → t.kind ≡ kind.Identifier → statement (lexemes tokens) ≡ (application (lexemes tokens) >>= λ x. Some (Act x.0, x.1))
applied tokens t ts all is =
    subst (λ (x : List Token). statement (lexemes x) ≡ (application (lexemes x) >>= λ y. Some (Act y.0, y.1))) (sym all) (identifier_first (lexeme t) (lexemes ts) is)

pub application_found : (tokens : List Token) (t : Token) (ts rest : List Token) (a : Action) → tokens ≡ t ∷ ts → t.kind ≡ kind.Identifier → application (lexemes tokens) ≡ Some (a, lexemes rest)
    → IsFirstStatement (record { place = t.place; sentence = Act a }) (lexemes tokens) (lexemes rest)
application_found tokens t ts rest a all is e = statement_found tokens t ts rest (Act a) all (applied tokens t ts all is ∙ bind_is (application (lexemes tokens)) (a, lexemes rest) _ _ e refl)

pub application_missing : (e : StepError) (tokens : List Token) (t : Token) (ts : List Token) → tokens ≡ t ∷ ts → t.kind ≡ kind.Identifier → Fails e (application (lexemes tokens)) → IsPart (lexemes tokens) (Err e)
application_missing NoMemory tokens t ts all is none = tt
application_missing Misfit tokens t ts all is none =
    subst (λ (x : List Token). BeginNone (lexemes x) (lexemes x)) (sym all)
    (no_statement (lexeme t) (lexemes ts) (identifier_no_gate t.kind is)
    (ap (λ (x : List Token). statement (lexemes x)) (sym all) ∙ applied tokens t ts all is ∙ bind_none (application (lexemes tokens)) _ none))

-- ---- the tokens behind

pub behind_shrinks : (ts rest : List Lexeme) → IsBehind rest ts → length rest < length ts
behind_shrinks ts rest b = omega (arith, ap length b.2, length-append b.1 rest)

behind_some : (us ts rest : List Lexeme) → ts ≡ us ++ rest → 0 < length us → IsBehind rest ts
behind_some [] ts rest e some = absurd (omega (arith, some))
behind_some (t ∷ us) ts rest e some = (t, us, e)

pub statement_behind : (ts rest : List Lexeme) (s : BodySentence) → body_statement ts ≡ Some (s, rest) → IsBehind rest ts
statement_behind ts rest s e = let t = body_statement_takes ts s rest e in behind_some t.0 ts rest t.1 (some_body s t.0 t.2)

pub brace_behind : (ts rest : List Lexeme) → after kind.RightBrace ts ≡ Some rest → IsBehind rest ts
brace_behind ts rest e = let t = after_takes kind.RightBrace ts rest e in (t.2.0, [], t.1 ∙ ap (λ (x : List Lexeme). x ++ rest) t.2.2)

-- ---- parts of a gate's body

regroup : (a b c d : List Lexeme) → (a ++ b) ++ (c ++ d) ≡ (a ++ (b ++ c)) ++ d
regroup a b c d = simp append_assoc

module _ (place : ℕ) (gate : GateForm) (all ts : List Lexeme) (inside : IsInBody place gate all ts) where
  took_heading : Took (IsHeading gate) all (inside.body ++ ts)
  took_heading = (inside.heading, inside.same ∙ append_assoc inside.heading inside.body ts, inside.is_heading)

  took_body : Took (Repeated IsBodyStatement gate.body) (inside.body ++ ts) ts
  took_body = (inside.body, refl, inside.is_body)

  pub statement_next : (s : BodySentence) (rest : List Lexeme) → body_statement ts ≡ Some (s, rest) → IsInBody place (with_statement gate s) all rest
  statement_next s rest e =
      let t = body_statement_takes ts s rest e in
      record {
        heading = inside.heading;
        body = inside.body ++ t.0;
        same = inside.same ∙ ap (λ (x : List Lexeme). (inside.heading ++ inside.body) ++ x) t.1 ∙ regroup inside.heading inside.body t.0 rest;
        begins = inside.begins;
        is_heading = inside.is_heading;
        is_body = repeated_then IsBodyStatement gate.body s inside.body t.0 inside.is_body t.2;
      }

  pub end_next : (rest : List Lexeme) → after kind.RightBrace ts ≡ Some rest → IsFirstStatement (record { place = place; sentence = DeclareGate gate }) all rest
  unfolding took_heading
  end_next rest e =
      let g = whole_gate gate all (inside.body ++ ts) ts rest took_heading took_body e in
      let begins = inside.begins in
      first_found all place (DeclareGate gate) rest
      (begins.0, begins.1 ++ (inside.body ++ ts), took_heading.1 ∙ ap (λ (x : List Lexeme). x ++ (inside.body ++ ts)) begins.2, begins.3)
      (ap statement g.1 ∙ statement_again (DeclareGate gate) g.0 rest g.2 tt)

  none_inside : after kind.RightBrace ts ≡ None → body_statement ts ≡ None → BeginsWithStatement all → ⊥
  none_inside brace none = none_begins all (gate_none gate all (inside.body ++ ts) ts took_heading took_body brace none)

other_brace : (b : Bool) (ts more : List Lexeme) → (if b then Some ts else None) ≡ None → (if b then Some more else None) ≡ None
other_brace true ts more e = absurd (let h : ◌≡◌ {A = Option (List Lexeme)} (Some ts) None = e in cc)
other_brace false ts more e = refl

-- so it is where more follows
inside_more : (place : ℕ) (gate : GateForm) (all ts more : List Lexeme) → IsInBody place gate all ts → IsInBody place gate (all ++ more) (ts ++ more)
inside_more place gate all ts more inside = record {
  heading = inside.heading;
  body = inside.body;
  same = ap (λ (x : List Lexeme). x ++ more) inside.same ∙ append_assoc (inside.heading ++ inside.body) ts more;
  begins = inside.begins;
  is_heading = inside.is_heading;
  is_body = inside.is_body;
}

brace_later : (ts more : List Lexeme) → has_end ts ≡ true → after kind.RightBrace ts ≡ None → after kind.RightBrace (ts ++ more) ≡ None
unfolding after
brace_later [] more end none = absurd (let h : ◌≡◌ {A = Bool} false true = end in cc)
brace_later (t ∷ ts) more end none = other_brace (same_kind t.kind kind.RightBrace) ts (ts ++ more) none

pub none_next : (place : ℕ) (gate : GateForm) (all ts : List Lexeme) → IsInBody place gate all ts → after kind.RightBrace ts ≡ None → body_statement ts ≡ None → BeginNone all ts
none_next place gate all ts inside brace none = record {
  none = none_inside place gate all ts inside brace none;
  none_later = λ end more.
      none_inside place gate (all ++ more) (ts ++ more) (inside_more place gate all ts more inside) (brace_later ts more end brace)
      (reads_none_later body_statement IsBodyStatement body_statement_takes (λ a us rest h. body_statement_again a us rest h tt) ts more (λ a us rest e h. body_once a us h) end none);
}

-- ---- what the answer says

pub body_next : (ts : List Lexeme) (x : BodyPart × Bor (List Token)) → IsBodyPart ts (Ok x) → (place : ℕ) (gate : GateForm) (all : List Lexeme) → IsInBody place gate all ts → IsNextInBody place gate all ts (Some x)
body_next ts (Statement s, rest) is place gate all inside = statement_next place gate all ts inside (body_sentence s) (lexemes rest.now) is
body_next ts (End, rest) is place gate all inside = end_next place gate all ts inside (lexemes rest.now) is

pub body_behind : (ts : List Lexeme) (x : BodyPart × Bor (List Token)) → IsBodyPart ts (Ok x) → IsBehind (lexemes x.1.now) ts
body_behind ts (Statement s, rest) is = statement_behind ts (lexemes rest.now) (body_sentence s) is
body_behind ts (End, rest) is = brace_behind ts (lexemes rest.now) is
