-- Tokens whose texts are kept one behind the other.
use Rattle.std.proofs.Common.{◌≡◌, ℕ, ◌+◌, ◌≤◌, List, [], ◌∷◌, ◌++◌, length, take, drop, refl, sym, ap, ap₂, ◌∙◌, arith, length-drop}
use Rattle.std.specs.List.{concat}
use Rattle.std.proofs.lemmas.List.{nil_from_length, take-append-drop, take_all, take-append-le, drop-append-le}
use Rattle.qasm_lexer.specs.declared.token_list.Entry.{Entry}
use Rattle.qasm_lexer.specs.Tokens.{Lexeme}
use Rattle.qasm_lexer.specs.TokenLists.{texts}
use Rattle.qasm_lexer.specs.Internal.Entries.{listed, count_of}

-- an entry as a token with this text
abbrev pub with_text : Entry → List ℕ → Lexeme
with_text entry text = record { kind = entry.kind; text = text; place = entry.place }

-- one token more, with its text behind the pool
pub listed-append : (pool text : List ℕ) (entries : List Entry) (entry : Entry) → count_of entries ≡ length pool → entry.count ≡ length text
    → listed (pool ++ text) (entries ++ entry ∷ []) ≡ listed pool entries ++ with_text entry text ∷ []
listed-append pool text [] entry all count =
    let none : pool ≡ [] = nil_from_length pool (sym all) in
    rw none (ap (λ t. with_text entry t ∷ []) (take_all entry.count text (omega arith)))
listed-append pool text (first ∷ entries) entry all count =
    let fits : first.count ≤ length pool = omega arith in
    ap₂ (λ t rest. with_text first t ∷ rest) (take-append-le first.count pool text fits)
    (ap (λ p. listed p (entries ++ entry ∷ [])) (drop-append-le first.count pool text fits)
    ∙ listed-append (drop first.count pool) text entries entry (omega (arith, all, length-drop first.count pool)) count)

pub count_of-append : (entries : List Entry) (entry : Entry) → count_of (entries ++ entry ∷ []) ≡ count_of entries + entry.count
count_of-append [] entry = omega arith
count_of-append (first ∷ entries) entry = omega (arith, count_of-append entries entry)

-- the texts are the pool
pub concat-listed : (pool : List ℕ) (entries : List Entry) → count_of entries ≡ length pool → concat (texts (listed pool entries)) ≡ pool
concat-listed pool [] all = sym (nil_from_length pool (sym all))
concat-listed pool (first ∷ entries) all =
    ap (λ rest. take first.count pool ++ rest) (concat-listed (drop first.count pool) entries (omega (arith, all, length-drop first.count pool)))
    ∙ take-append-drop first.count pool

pub length-listed : (pool : List ℕ) (entries : List Entry) → length (listed pool entries) ≡ length entries
length-listed pool [] = refl
length-listed pool (first ∷ entries) = omega (arith, length-listed (drop first.count pool) entries)
