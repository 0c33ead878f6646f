-- What a reader has of a text that comes in pieces.
use Rattle.std.specs.Prelude.{◌≡◌, ℕ, List, Option, None, Some, false}
use Rattle.qasm_lexer.specs.Tokens.{Lexeme}
use Rattle.qasm_lexer.specs.Taken.{IsLineBegun, HasBadLine}
use Rattle.qasm_inline.specs.declared.piece_reader.PieceReader.{PieceReader}
use Rattle.qasm_inline.specs.Internal.Readings.{KeepsTokens}

-- the bytes are lines that were read, and then those that aren't read yet, of which the first stands at the place
pub record IsReadOff (reader : PieceReader) (bytes : List ℕ) : Type 0 where
  pub all : List Lexeme
  pub begun : IsLineBegun all reader.unread.items reader.place bytes
  pub keeps : KeepsTokens all reader.reader

-- so they are, or there is a bad byte in a line of them
abbrev pub CameWith : Option ℕ → PieceReader → List ℕ → Type 0
CameWith None reader bytes = IsReadOff reader bytes
CameWith (Some at) reader bytes = HasBadLine at bytes

-- these are the bytes that a reader has taken
abbrev pub HasRead : PieceReader → List ℕ → Type 0
HasRead reader bytes = (reader.failed ≡ false) × CameWith reader.bad reader bytes
