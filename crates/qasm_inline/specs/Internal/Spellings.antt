-- What bytes at the start of a text spell, and statements that are spelled plainly: a private matter of the program.
use Rattle.std.specs.Prelude.{◌≡◌, ◌<◌, ℕ, Bool, true, false, not, ◌&&◌, ◌||◌, ◌==◌, if◌then◌else◌}
use Rattle.std.specs.Prelude.{List, [], ◌∷◌, length, map, drop, None}
use Rattle.std.specs.Char.{is_ascii_lowercase}
use Rattle.std.specs.Option.{option_to_list}
use Rattle.qasm_lexer.specs.Forms.{is_space}
use Rattle.qasm_lexer.specs.Tokens.{Lexeme, IsCutUpTo}
use Rattle.qasm_lexer.specs.Internal.Moved.{moved}
use Rattle.qasm_reader.specs.declared.depth.Depth.{Depth}
use Rattle.qasm_reader.specs.Depth.{open_after}
use Rattle.qasm_lexer.specs.declared.token.TokenKind.TheVariants as kind
use Rattle.qasm_reader.specs.Grammar.{◌⋅◌, IsArgument, IsQuantumOperation, Repeated, Sign}
use Rattle.qasm_reader.specs.Syntax.{Applied, Apply, Operand}
use Rattle.qasm_reader.specs.Views.{callee, operand}
use Rattle.qasm_inline.specs.declared.plain.Plain.{Plain}
use Rattle.qasm_inline.specs.declared.reading.Reader.{Reader}
use Rattle.qasm_inline.specs.Internal.Readings.{ReadsOn}

-- none of the tokens is a parenthesis, nor opens one
abbrev pub AreFlat : List Lexeme → Type 0
AreFlat [] = Unit {0}
AreFlat (t ∷ ts) = (open_after 0 t.kind ≡ 0) × AreFlat ts

-- up to the rest, the text is cut into tokens of this kind, where so many bytes stand before it
pub record IsSpelledAt (Is : List Lexeme → Type 0) (from place : ℕ) (text rest : List ℕ) : Type 0 where
  pub tokens : List Lexeme
  pub cut : IsCutUpTo place text rest tokens
  pub are : Is (map (moved from) tokens)
  pub flat : AreFlat (map (moved from) tokens)

-- wherever it stands
abbrev pub IsSpelled : (List Lexeme → Type 0) → List ℕ → List ℕ → Type 0
IsSpelled Is text rest = (from place : ℕ) → IsSpelledAt Is from place text rest

abbrev pub AreNone : List Lexeme → Type 0
AreNone ts = ts ≡ []

-- a byte of white space stands before the rest
abbrev pub IsBehindSpace : List ℕ → List ℕ → Type 0
IsBehindSpace text rest = (b : ℕ) × (text ≡ b ∷ rest) × (is_space b ≡ true)

-- each of the arguments behind a comma
abbrev pub AreMore : List Operand → List Lexeme → Type 0
AreMore arguments = Repeated (λ y. Sign kind.Comma ⋅ IsArgument y) arguments

-- the application that a plain statement is
abbrev pub application_of : Plain → Apply
application_of plain = record {
  gate = callee plain.gate;
  angles = [];
  qubits = operand plain.first ∷ map operand (option_to_list plain.second);
}

-- the text begins with this statement
abbrev pub IsPlain : List ℕ → Plain → Type 0
IsPlain text plain = IsSpelled (IsQuantumOperation (Applied (application_of plain))) text plain.rest.now

-- ---- words that are no keywords, by their first letters

abbrev pub is_short_keyword : ℕ → ℕ → Bool
is_short_keyword first second =
    if first == 105 then second == 102 else
    if first == 108 then second == 110 else
    if first == 112 then second == 105 else false

abbrev pub begins_keyword : ℕ → ℕ → Bool
begins_keyword first second =
    if first == 98 || first == 103 || first == 116 then second == 97 else
    if first == 99 then second == 114 || second == 111 else
    if first == 101 then second == 120 else
    if first == 105 then second == 110 else
    if first == 109 || first == 114 then second == 101 else
    if first == 111 then second == 112 else
    if first == 112 then second == 105 else
    if first == 113 then second == 114 else
    if first == 115 then second == 105 || second == 113 else false

abbrev pub is_free : List ℕ → Bool
is_free [] = false
is_free (a ∷ []) = is_ascii_lowercase a
is_free (a ∷ b ∷ []) = is_ascii_lowercase a && not (is_short_keyword a b)
is_free (a ∷ b ∷ c ∷ rest) = is_ascii_lowercase a && not (begins_keyword a b)

-- ---- the reader between two parts

-- no part is open, no parenthesis, and there was no fault of the grammar
pub record IsBetween (reader : Reader) : Type 0 where
  pub no_gate : reader.gate ≡ None
  pub no_tokens : reader.tokens.items ≡ []
  pub no_fault : reader.fault ≡ None
  pub shallow : reader.depth ≡ Depth.Open 0

-- the later reader has read this application too, however it is spelled without parentheses
abbrev pub ReadsApplication : Reader → Apply → Reader → Type 0
ReadsApplication reader a later =
    (ts : List Lexeme) → IsQuantumOperation (Applied a) ts → AreFlat ts → ReadsOn reader ts later

-- a plain statement stands before the rest, which the later reader has read too
pub record IsReadPlain (reader : Reader) (text rest : List ℕ) (later : Reader) : Type 0 where
  pub plain : Plain
  pub spelled : IsPlain text plain
  pub behind : plain.rest.now ≡ rest
  pub shorter : length rest < length text
  pub reads : ReadsApplication reader (application_of plain) later
  pub between : IsBetween later

-- the later reader has read what the text has between these places, where so many bytes stand before it
pub record IsReadTo (reader : Reader) (text : List ℕ) (place : ℕ) (rest : List ℕ) (from : ℕ)
    (later : Reader) : Type 0 where
  pub tokens : List Lexeme
  pub cut : IsCutUpTo place (drop place text) rest tokens
  pub reads : ReadsOn reader (map (moved from) tokens) later
