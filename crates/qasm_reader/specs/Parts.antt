-- Programs part by part: a gate's declaration is its heading, each statement of its body, and the brace that closes it.
-- The grammar is that of Cross, Bishop, Smolin and Gambetta, "Open quantum assembly language" (arXiv 1707.03429),
-- appendix A.
use Rattle.std.specs.Prelude.{◌≡◌, ℕ, Bool, true, false, List, [], ◌∷◌, ◌++◌, Option, None, Some}
use Rattle.std.specs.List.{list_any}
use Rattle.std.specs.Borrow.{Bor}
use Rattle.qasm_lexer.specs.declared.token.Token.{Token}
use Rattle.qasm_lexer.specs.declared.token.TokenKind.{TokenKind}
use Rattle.qasm_lexer.specs.declared.token.TokenKind.TheVariants as kind
use Rattle.qasm_lexer.specs.Tokens.{Lexeme, lexemes}
use Rattle.qasm_reader.specs.declared.parts.Part.{Part}
use Rattle.qasm_reader.specs.declared.parts.Part.TheVariants as part
use Rattle.qasm_reader.specs.declared.parts.BodyPart.{BodyPart}
use Rattle.qasm_reader.specs.declared.parts.BodyPart.TheVariants.{Statement, End}
use Rattle.qasm_reader.specs.Grammar.{◌⋅◌, Sign, Repeated, IsIdentifier, IsParameters, IsIdentifiers, IsBodyStatement}
use Rattle.qasm_reader.specs.Grammar.{BeginsAt, BeginsWithStatement, IsFirstStatement}
use Rattle.qasm_reader.specs.Syntax.{GateForm, BodySentence, DeclareGate}
use Rattle.qasm_reader.specs.Views.{body_sentence, form_of, placed}

-- these tokens are behind a token or more of those
abbrev pub IsBehind : List Lexeme → List Lexeme → Type 0
IsBehind rest ts = (t : Lexeme) × (more : List Lexeme) × (ts ≡ t ∷ more ++ rest)

-- "gate" id [ "(" [ ids ] ")" ] ids "{"
abbrev pub IsHeading : GateForm → List Lexeme → Type 0
IsHeading gate =
    Sign kind.Gate ⋅ IsIdentifier gate.name ⋅ IsParameters gate.parameters ⋅ IsIdentifiers gate.qubits
    ⋅ Sign kind.LeftBrace

-- the tokens begin, at this place, with a gate's heading and these statements of its body, and the rest is behind them
pub record IsInBody (place : ℕ) (gate : GateForm) (ts rest : List Lexeme) : Type 0 where
  pub heading : List Lexeme
  pub body : List Lexeme
  pub same : ts ≡ heading ++ body ++ rest
  pub begins : BeginsAt heading place
  pub is_heading : IsHeading gate heading
  pub is_body : Repeated IsBodyStatement gate.body body

-- the signs with which parts end
abbrev pub ends_part : TokenKind → Bool
ends_part kind.Semicolon = true
ends_part kind.LeftBrace = true
ends_part kind.RightBrace = true
ends_part _ = false

-- one of the tokens is such a sign
abbrev pub has_end : List Lexeme → Bool
has_end ts = list_any (λ t. ends_part t.kind) ts

-- The tokens, which end with this rest, begin with no statement of a program. Where one of the rest ends a part, they
-- don't either whatever follows them.
pub record BeginNone (ts rest : List Lexeme) : Type 0 where
  pub none : BeginsWithStatement ts → ⊥
  pub none_later : has_end rest ≡ true → (more : List Lexeme) → BeginsWithStatement (ts ++ more) → ⊥

-- the tokens begin with this part of a program, and the rest is behind it
abbrev pub IsFirstPart : Part → List Lexeme → List Lexeme → Type 0
IsFirstPart (part.Statement statement) ts rest = IsFirstStatement (placed statement) ts rest
IsFirstPart (part.Heading place heading) ts rest = IsInBody place (form_of heading []) ts rest

-- the gate with one more statement in its body
abbrev pub with_statement : GateForm → BodySentence → GateForm
with_statement gate statement = record {
  name = gate.name;
  parameters = gate.parameters;
  qubits = gate.qubits;
  body = gate.body ++ statement ∷ [];
}

-- what is next in these last tokens, in the body of the gate with which all begin at this place: a statement, or the
-- brace that makes the gate whole, or none, where all begin with no statement of a program
abbrev pub IsNextInBody : ℕ → GateForm → List Lexeme → List Lexeme → Option (BodyPart × Bor (List Token)) → Type 0
IsNextInBody place gate all ts None = BeginNone all ts
IsNextInBody place gate all ts (Some (Statement statement, rest)) =
    IsInBody place (with_statement gate (body_sentence statement)) all (lexemes rest.now)
IsNextInBody place gate all ts (Some (End, rest)) =
    IsFirstStatement (record { place = place; sentence = DeclareGate gate }) all (lexemes rest.now)
