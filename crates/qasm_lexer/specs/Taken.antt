-- What a lexer has taken in of bytes that come in pieces.
use Rattle.std.specs.Prelude.{◌≡◌, ◌⊎◌, ℕ, List, [], ◌++◌, length, codes, Option, None, Some}
use Rattle.qasm_lexer.specs.declared.errors.LexError.{LexError}
use Rattle.qasm_lexer.specs.declared.errors.LexError.TheVariants.{BadByte, NoMemory}
use Rattle.qasm_lexer.specs.declared.piece_lexer.PieceLexer.{PieceLexer}
use Rattle.qasm_lexer.specs.Tokens.{Lexeme, IsCut, IsBadByte}

-- nothing, or bytes of which the last is a line feed
abbrev pub AreLines : List ℕ → Type 0
AreLines bytes = (bytes ≡ []) ⊎ ((before : List ℕ) × (bytes ≡ before ++ codes "\n"))

-- the bytes are lines that are cut into these tokens, and then the start of a line, which stands at the place
pub record IsLineBegun (tokens : List Lexeme) (line : List ℕ) (place : ℕ) (bytes : List ℕ) : Type 0 where
  pub lines : List ℕ
  pub whole : bytes ≡ lines ++ line
  pub are : AreLines lines
  pub cut : IsCut 0 lines tokens
  pub there : place ≡ length lines

-- the bytes begin with lines that have their bad byte here
pub record HasBadLine (at : ℕ) (bytes : List ℕ) : Type 0 where
  pub lines : List ℕ
  pub rest : List ℕ
  pub whole : bytes ≡ lines ++ rest
  pub are : AreLines lines
  pub bad : IsBadByte lines at

-- the bytes that came, by what has failed
abbrev pub CameWith : Option LexError → PieceLexer → List ℕ → Type 0
CameWith None lexer bytes = IsLineBegun lexer.list lexer.line.items lexer.place bytes
CameWith (Some (BadByte at)) lexer bytes = HasBadLine at bytes
CameWith (Some NoMemory) lexer bytes = ⊥

-- these are the bytes that a lexer has taken
abbrev pub HasTaken : PieceLexer → List ℕ → Type 0
HasTaken lexer bytes = CameWith lexer.fault lexer bytes

-- there was no memory
abbrev pub HasFailed : PieceLexer → Type 0
HasFailed lexer = lexer.fault ≡ Some NoMemory
