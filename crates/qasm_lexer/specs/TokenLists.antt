-- Lists of tokens: their texts, and tokens behind other bytes.
use Rattle.std.specs.Prelude.{ℕ, List, map}
use Rattle.qasm_lexer.specs.Tokens.{Lexeme}

-- the texts of tokens
abbrev pub texts : List Lexeme → List (List ℕ)
texts tokens = map (λ token. token.text) tokens
