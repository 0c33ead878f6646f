-- How an OpenQASM text is cut into tokens: at each place the longest form that begins there is the next piece.
-- The words and signs are those of Cross, Bishop, Smolin, Gambetta, "Open quantum assembly language"
-- (arXiv 1707.03429).
use Rattle.std.specs.Prelude.{◌≡◌, ◌<◌, ◌≤◌, ℕ, ◌+◌, Bool, ◌||◌, IsTrue, List, [], ◌∷◌, ◌++◌, length, drop, map}
use Rattle.std.specs.Prelude.{codes, Option, None, Some, is_some, if◌then◌else◌, slice_range}
use Rattle.std.specs.List.{concat}
use Rattle.std.specs.Option.{option_map, option_or, option_to_list}
use Rattle.std.specs.Str.{bytes_eq}
use Rattle.qasm_lexer.specs.declared.token.Token.{Token}
use Rattle.qasm_lexer.specs.declared.token.TokenKind.{TokenKind}
use Rattle.qasm_lexer.specs.declared.token.TokenKind.TheVariants.{Openqasm, U, Cx, Include, Qreg, Creg, Gate, Opaque}
use Rattle.qasm_lexer.specs.declared.token.TokenKind.TheVariants.{If, Barrier, Measure, Reset, Pi, Sin, Cos, Tan, Exp}
use Rattle.qasm_lexer.specs.declared.token.TokenKind.TheVariants.{Ln, Sqrt, Identifier, Natural, Real, Text, Semicolon}
use Rattle.qasm_lexer.specs.declared.token.TokenKind.TheVariants.{Comma, LeftParenthesis, RightParenthesis, LeftBracket}
use Rattle.qasm_lexer.specs.declared.token.TokenKind.TheVariants.{RightBracket, LeftBrace, RightBrace, Plus, Minus}
use Rattle.qasm_lexer.specs.declared.token.TokenKind.TheVariants.{Star, Slash, Caret, Arrow, Equals}
use Rattle.std.specs.Char.{is_ascii_lowercase}
use Rattle.qasm_lexer.specs.Forms.{begins, is_white, is_comment, is_word, is_natural, is_real, is_text}

-- the words with a kind of their own
abbrev pub words : List (List ℕ × TokenKind)
words =
    (codes "OPENQASM", Openqasm) ∷ (codes "U", U) ∷ (codes "CX", Cx)
    ∷ (codes "include", Include) ∷ (codes "qreg", Qreg) ∷ (codes "creg", Creg)
    ∷ (codes "gate", Gate) ∷ (codes "opaque", Opaque) ∷ (codes "if", If)
    ∷ (codes "barrier", Barrier) ∷ (codes "measure", Measure) ∷ (codes "reset", Reset)
    ∷ (codes "pi", Pi) ∷ (codes "sin", Sin) ∷ (codes "cos", Cos) ∷ (codes "tan", Tan)
    ∷ (codes "exp", Exp) ∷ (codes "ln", Ln) ∷ (codes "sqrt", Sqrt) ∷ []

abbrev pub signs : List (List ℕ × TokenKind)
signs =
    (codes ";", Semicolon) ∷ (codes ",", Comma)
    ∷ (codes "(", LeftParenthesis) ∷ (codes ")", RightParenthesis)
    ∷ (codes "[", LeftBracket) ∷ (codes "]", RightBracket)
    ∷ (codes "{", LeftBrace) ∷ (codes "}", RightBrace)
    ∷ (codes "+", Plus) ∷ (codes "-", Minus) ∷ (codes "*", Star) ∷ (codes "/", Slash)
    ∷ (codes "^", Caret) ∷ (codes "->", Arrow) ∷ (codes "==", Equals) ∷ []

-- the kind that a table gives
abbrev pub kind_in : List (List ℕ × TokenKind) → List ℕ → Option TokenKind
kind_in [] form = None
kind_in (row ∷ rows) form = if bytes_eq form row.0 then Some row.1 else kind_in rows form

-- a word that begins with a small letter is an identifier where it isn't a keyword; another has no kind
abbrev pub word_kind : List ℕ → Option TokenKind
word_kind word = option_or (kind_in words word) (if begins is_ascii_lowercase word then Some Identifier else None)

-- the kind of token that a form is; none for white space, comments, and words that are no token
abbrev pub token_kind : List ℕ → Option TokenKind
token_kind form =
    if is_word form then word_kind form else
    if is_real form then Some Real else
    if is_natural form then Some Natural else
    if is_text form then Some Text else kind_in signs form

-- white space or a comment
abbrev pub is_blank : List ℕ → Bool
is_blank form = is_white form || is_comment form

abbrev pub is_form : List ℕ → Bool
is_form form =
    is_blank form || is_word form || is_real form || is_natural form || is_text form || is_some (kind_in signs form)

-- a blank or a token, and the longest form at the start of what begins with it and goes on with `after`
pub record IsPiece (form after : List ℕ) : Type 0 where
  pub taken : IsTrue (is_blank form || is_some (token_kind form))
  pub longest : (other rest : List ℕ) → other ++ rest ≡ form ++ after → IsTrue (is_form other) →
      length other ≤ length form

-- pieces one after the other, and `after` after the last
abbrev pub ArePieces : List (List ℕ) → List ℕ → Type 0
ArePieces [] after = Unit {0}
ArePieces (piece ∷ pieces) after = IsPiece piece (concat pieces ++ after) × ArePieces pieces after

-- a token as it stands in a text: its kind, its bytes, and the place of the first
pub record Lexeme : Type 0 where
  pub kind : TokenKind
  pub text : List ℕ
  pub place : ℕ

abbrev pub lexeme : Token → Lexeme
lexeme token = record { kind = token.kind; text = token.slice.now; place = token.place }

abbrev pub lexemes : List Token → List Lexeme
lexemes tokens = map lexeme tokens

-- the tokens among pieces, of which the first stands at a place
abbrev pub tokens_in : ℕ → List (List ℕ) → List Lexeme
tokens_in place [] = []
tokens_in place (piece ∷ pieces) =
    option_to_list (option_map (λ kind. record { kind = kind; text = piece; place = place }) (token_kind piece))
    ++ tokens_in (place + length piece) pieces

-- up to the rest, the text is pieces, and these are the tokens among them
pub record IsCutUpTo (place : ℕ) (text rest : List ℕ) (tokens : List Lexeme) : Type 0 where
  pub pieces : List (List ℕ)
  pub whole : text ≡ concat pieces ++ rest
  pub each : ArePieces pieces rest
  pub tokens_are : tokens ≡ tokens_in place pieces

-- the whole text, which stands at a place, is pieces with these tokens
abbrev pub IsCut : ℕ → List ℕ → List Lexeme → Type 0
IsCut place text tokens = IsCutUpTo place text [] tokens

-- up to the place the whole text is pieces with these tokens
abbrev pub IsCutAt : List ℕ → ℕ → List Lexeme → Type 0
IsCutAt text place tokens = IsCutUpTo 0 text (drop place text) tokens

-- these tokens begin with those
abbrev pub IsBegun : List Lexeme → List Lexeme → Type 0
IsBegun those these = (more : List Lexeme) × (these ≡ those ++ more)

-- no piece begins here, and the text isn't over
abbrev pub HasNoPiece : List ℕ → Type 0
HasNoPiece rest = (0 < length rest) × ((form after : List ℕ) → form ++ after ≡ rest → IsPiece form after → ⊥)

-- the text is cut into pieces up to a place where no piece begins
abbrev pub IsBadByte : List ℕ → ℕ → Type 0
IsBadByte text at = (tokens : List Lexeme) × IsCutUpTo 0 text (drop at text) tokens × HasNoPiece (drop at text)

-- each token's text is what the text has at its place, and each begins where the one before it has ended, or later
abbrev pub AreInPlace : ℕ → List ℕ → List Lexeme → Type 0
AreInPlace from text [] = Unit {0}
AreInPlace from text (token ∷ tokens) =
    (from ≤ token.place) × (slice_range text token.place (token.place + length token.text) ≡ token.text)
    × AreInPlace (token.place + length token.text) text tokens
