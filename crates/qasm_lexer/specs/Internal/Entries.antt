-- Tokens whose texts are kept one behind the other.
use Rattle.std.specs.Prelude.{ℕ, ◌+◌, List, [], ◌∷◌, take, drop}
use Rattle.qasm_lexer.specs.declared.token_list.Entry.{Entry}
use Rattle.qasm_lexer.specs.Tokens.{Lexeme}

-- the tokens of entries, of which the first one's text begins the pool
abbrev pub listed : List ℕ → List Entry → List Lexeme
listed pool [] = []
listed pool (entry ∷ entries) =
    record { kind = entry.kind; text = take entry.count pool; place = entry.place }
    ∷ listed (drop entry.count pool) entries

-- how many bytes their texts have
abbrev pub count_of : List Entry → ℕ
count_of [] = 0
count_of (entry ∷ entries) = entry.count + count_of entries
