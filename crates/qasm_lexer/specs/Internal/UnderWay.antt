-- A lexer that has taken in bytes in pieces, and met no fault.
use Rattle.std.specs.Prelude.{ℕ, List, None}
use Rattle.qasm_lexer.specs.Taken.{CameWith}
use Rattle.qasm_lexer.specs.declared.piece_lexer.PieceLexer.{PieceLexer}

-- a lexer has taken these bytes, and nothing has failed
abbrev pub IsUnderWay : PieceLexer → List ℕ → Type 0
IsUnderWay lexer bytes = CameWith None lexer bytes
