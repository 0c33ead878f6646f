-- What stands behind the tokens that were taken.
use Rattle.std.proofs.Common.{◌≡◌, ℕ, suc, ◌-◌, List, [], ◌∷◌, ◌++◌, length, length-append, map, drop, refl, ap, ◌∙◌, arith}
use Rattle.std.proofs.lemmas.List.{length-map}
use Rattle.qasm_lexer.specs.declared.token.Token.{Token}
use Rattle.qasm_lexer.specs.Tokens.{Lexeme, lexeme, lexemes}

-- so many tokens are before the rest
pub drop_behind : {A : Type 0} (xs ys : List A) → drop (length xs) (xs ++ ys) ≡ ys
drop_behind [] ys = refl
drop_behind (x ∷ xs) ys = drop_behind xs ys

pub map_drop : {A B : Type 0} (f : A → B) (n : ℕ) (xs : List A) → map f (drop n xs) ≡ drop n (map f xs)
map_drop f (suc n) (x ∷ xs) = map_drop f n xs
map_drop f _ _ = refl

pub behind_front : (tokens rest : List Token) (front : List Lexeme) → lexemes tokens ≡ front ++ lexemes rest
    → lexemes (drop (length tokens - length rest) tokens) ≡ lexemes rest
behind_front tokens rest front e =
    let n : length (lexemes tokens) ≡ length (front ++ lexemes rest) = ap length e in
    let count : length tokens - length rest ≡ length front =
    omega (arith, n, length-append front (lexemes rest), length-map tokens lexeme, length-map rest lexeme) in
    map_drop lexeme (length tokens - length rest) tokens ∙ ap (drop (length tokens - length rest)) e
    ∙ ap (λ m. drop m (front ++ lexemes rest)) count ∙ drop_behind front (lexemes rest)
