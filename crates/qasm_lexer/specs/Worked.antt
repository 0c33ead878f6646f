-- Lines of OpenQASM and their tokens, by hand.
use Rattle.std.specs.Prelude.{ℕ, ◌+◌, List, [], ◌∷◌, ◌++◌, length, codes, decimal}
use Rattle.qasm_lexer.specs.declared.token.TokenKind.{TokenKind}
use Rattle.qasm_lexer.specs.declared.token.TokenKind.TheVariants.{Gate, U, Identifier, Natural, Semicolon, Comma}
use Rattle.qasm_lexer.specs.declared.token.TokenKind.TheVariants.{LeftParenthesis, RightParenthesis, LeftBracket}
use Rattle.qasm_lexer.specs.declared.token.TokenKind.TheVariants.{RightBracket, LeftBrace, RightBrace}
use Rattle.qasm_lexer.specs.Tokens.{Lexeme}

abbrev pub token : TokenKind → List ℕ → ℕ → Lexeme
token kind text place = record { kind = kind; text = text; place = place }

abbrev pub gate_line : List ℕ
gate_line = codes "gate u3(theta,phi,lambda) q { U(theta,phi,lambda) q; }\n"

abbrev pub gate_line_tokens : List Lexeme
gate_line_tokens =
    token Gate (codes "gate") 0 ∷ token Identifier (codes "u3") 5 ∷ token LeftParenthesis (codes "(") 7
    ∷ token Identifier (codes "theta") 8 ∷ token Comma (codes ",") 13 ∷ token Identifier (codes "phi") 14
    ∷ token Comma (codes ",") 17 ∷ token Identifier (codes "lambda") 18 ∷ token RightParenthesis (codes ")") 24
    ∷ token Identifier (codes "q") 26 ∷ token LeftBrace (codes "{") 28 ∷ token U (codes "U") 30
    ∷ token LeftParenthesis (codes "(") 31 ∷ token Identifier (codes "theta") 32 ∷ token Comma (codes ",") 37
    ∷ token Identifier (codes "phi") 38 ∷ token Comma (codes ",") 41 ∷ token Identifier (codes "lambda") 42
    ∷ token RightParenthesis (codes ")") 48 ∷ token Identifier (codes "q") 50 ∷ token Semicolon (codes ";") 51
    ∷ token RightBrace (codes "}") 53 ∷ []

-- a gate on the qubit n
abbrev pub gate_on : ℕ → List ℕ
gate_on n = codes "x q[" ++ decimal n ++ codes "];\n"

-- its tokens where it stands at a place
abbrev pub gate_on_tokens : ℕ → ℕ → List Lexeme
gate_on_tokens place n =
    token Identifier (codes "x") place ∷ token Identifier (codes "q") (place + 2)
    ∷ token LeftBracket (codes "[") (place + 3)
    ∷ token Natural (decimal n) (place + 4) ∷ token RightBracket (codes "]") (place + 4 + length (decimal n))
    ∷ token Semicolon (codes ";") (place + 5 + length (decimal n)) ∷ []
