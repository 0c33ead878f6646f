-- Tokens behind other bytes.
use Rattle.std.specs.Prelude.{ℕ, ◌+◌}
use Rattle.qasm_lexer.specs.Tokens.{Lexeme}

-- a token where so many bytes stand before the text
abbrev pub moved : ℕ → Lexeme → Lexeme
moved from token = record { kind = token.kind; text = token.text; place = from + token.place }
