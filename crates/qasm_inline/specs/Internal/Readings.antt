-- What the reader of a text keeps: a private matter of the program.
use Rattle.std.specs.Prelude.{◌≡◌, ℕ, List, [], ◌∷◌, ◌++◌, drop, Option, None, Some, Err, MatchOption}
use Rattle.std.specs.Borrow.{Bor}
use Rattle.qasm_lexer.specs.declared.token.Token.{Token}
use Rattle.qasm_lexer.specs.Tokens.{Lexeme, lexemes}
use Rattle.qasm_reader.specs.declared.parts.BodyPart.{BodyPart}
use Rattle.qasm_reader.specs.Depth.{IsDepth}
use Rattle.qasm_reader.specs.Grammar.{IsProgram, IsSyntaxFault}
use Rattle.qasm_reader.specs.Parts.{BeginNone, IsInBody, IsNextInBody}
use Rattle.qasm_reader.specs.Syntax.{GateForm, Placed}
use Rattle.qasm_unroll.specs.declared.circuit.Circuit.{Circuit}
use Rattle.qasm_unroll.specs.declared.circuit.OpenGate.{OpenGate}
use Rattle.qasm_scope.specs.Texts.{IsProgramText}
use Rattle.qasm_inline.specs.declared.error.TextError.{TextError}
use Rattle.qasm_inline.specs.declared.reading.Reader.{Reader}
use Rattle.qasm_inline.specs.TextAnswers.{IsTextAnswer}
use Rattle.qasm_unroll.specs.Circuits.{HasBegun, HasTaken}

-- All tokens up to the rest were taken in: those of whole statements, and behind these, where a gate's declaration
-- isn't over, those of its heading and of its body so far.
pub record AreTaken (all : List Lexeme) (gate : Option OpenGate) (circuit : Circuit) (rest : List Lexeme) : Type 0 where
  pub before : List Lexeme
  pub behind : List Lexeme
  pub statements : List Placed
  pub same : all ≡ before ++ behind
  pub program : IsProgram before statements
  pub taken : MatchOption gate ((behind ≡ rest) × HasTaken circuit statements) (λ begun.
      (form : GateForm) × IsInBody begun.place form behind rest × HasBegun circuit begun statements form)

-- So they were, and those are kept, which no part begins. Or there is a syntax fault at this place whatever follows,
-- and none are kept.
abbrev pub IsReadSoFar : Option ℕ → List Lexeme → Option OpenGate → Circuit → List Lexeme → Type 0
IsReadSoFar None all gate circuit kept = (read : AreTaken all gate circuit kept) × BeginNone read.behind kept
IsReadSoFar (Some at) all gate circuit kept = (kept ≡ []) × ((more : List Lexeme) → IsSyntaxFault (all ++ more) at)

-- of the tokens behind what was taken in so many are taken in too, or no part begins them
abbrev pub IsTakenNext : List Lexeme → Option ℕ → Reader → List Token → Type 0
IsTakenNext all count later tokens = MatchOption count (IsReadSoFar None all later.gate later.circuit (lexemes tokens))
    (λ n. AreTaken all later.gate later.circuit (lexemes (drop n tokens)))

-- the part comes next in the body of the gate that is declared at this place, whatever of it was taken in
abbrev pub IsNextOf : ℕ → List Lexeme → Option (BodyPart × Bor (List Token)) → Type 0
IsNextOf place tokens part = (form : GateForm) (behind : List Lexeme) → IsInBody place form behind tokens →
    IsNextInBody place form behind tokens part

-- the reader keeps what all tokens come to, and how deep parentheses are nested behind them
pub record KeepsTokens (all : List Lexeme) (reader : Reader) : Type 0 where
  pub deep : IsDepth reader.depth all
  pub kept : IsReadSoFar reader.fault all reader.gate reader.circuit (lexemes reader.tokens.items)

-- the later reader has read these tokens too, whichever came before
abbrev pub ReadsOn : Reader → List Lexeme → Reader → Type 0
ReadsOn reader tokens later = (before : List Lexeme) → KeepsTokens before reader → KeepsTokens (before ++ tokens) later

-- this is why the text is no program; or it is one, and the circuit has taken it in
abbrev pub IsTextFault : List ℕ → Circuit → Option TextError → Type 0
IsTextFault text circuit None = (program : List Placed) × IsProgramText text program × HasTaken circuit program
IsTextFault text circuit (Some error) = IsTextAnswer text (Err error)

-- the place of what isn't over: the gate's declaration, or else what the rest begins with
abbrev pub open_place : Option OpenGate → List Lexeme → Option ℕ
open_place (Some gate) rest = Some gate.place
open_place None [] = None
open_place None (t ∷ rest) = Some t.place
