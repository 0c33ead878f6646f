-- How deep parentheses are nested.
use Rattle.std.specs.Prelude.{◌≡◌, ℕ, ◌+◌, ◌-◌, ◌<◌, ◌≤◌, List, [], ◌∷◌, ◌++◌, Option, None, Some, nat_lt}
use Rattle.std.specs.Prelude.{if◌then◌else◌}
use Rattle.qasm_lexer.specs.declared.token.TokenKind.{TokenKind}
use Rattle.qasm_lexer.specs.declared.token.TokenKind.TheVariants.{LeftParenthesis, RightParenthesis, Semicolon}
use Rattle.qasm_lexer.specs.declared.token.TokenKind.TheVariants.{LeftBrace, RightBrace}
use Rattle.qasm_lexer.specs.Tokens.{Lexeme}
use Rattle.qasm_reader.specs.declared.depth.Depth.{Depth}
use Rattle.qasm_reader.specs.declared.depth.Depth.TheVariants.{Open, TooDeep}

-- how many parentheses may be open
abbrev pub most_open : ℕ
most_open = 256

-- how many are open after a token, where so many were before it
abbrev pub open_after : ℕ → TokenKind → ℕ
open_after n LeftParenthesis = n + 1
open_after n RightParenthesis = n - 1
open_after n Semicolon = 0
open_after n LeftBrace = 0
open_after n RightBrace = 0
open_after n _ = n

-- the place of the first token after which more are open than may be, where so many were before
abbrev pub too_deep_from : ℕ → List Lexeme → Option ℕ
too_deep_from n [] = None
too_deep_from n (t ∷ ts) =
    if nat_lt most_open (open_after n t.kind) then Some t.place else too_deep_from (open_after n t.kind) ts

-- the place of the first left parenthesis with which more than that many are open, if there is one
abbrev pub too_deep : List Lexeme → Option ℕ
too_deep = too_deep_from 0

-- ---- the same by prefixes

-- how many are open at the end of these tokens, where so many were before them
abbrev pub open_at_end : ℕ → List Lexeme → ℕ
open_at_end n [] = n
open_at_end n (t ∷ ts) = open_at_end (open_after n t.kind) ts

-- no prefix of the tokens has more open than may be
abbrev pub IsShallow : List Lexeme → Type 0
IsShallow ts = (prefix more : List Lexeme) → ts ≡ prefix ++ more → open_at_end 0 prefix ≤ most_open

-- a left parenthesis at this place is one too many, and none before it is
abbrev pub IsTooDeep : List Lexeme → ℕ → Type 0
IsTooDeep ts at =
    (before : List Lexeme) × (left : Lexeme) × (more : List Lexeme) × (ts ≡ before ++ left ∷ more)
    × (left.kind ≡ LeftParenthesis) × (left.place ≡ at)
    × IsShallow before × (most_open < open_at_end 0 (before ++ left ∷ []))

-- ---- what the type of the reader says

-- this is how deep parentheses are nested behind these tokens
abbrev pub IsDepth : Depth → List Lexeme → Type 0
IsDepth (Open count) ts = (too_deep ts ≡ None) × (count ≡ open_at_end 0 ts) × (count ≤ most_open)
IsDepth (TooDeep at) ts = too_deep ts ≡ Some at
