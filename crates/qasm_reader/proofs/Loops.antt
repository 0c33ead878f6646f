-- Loops over lists: what was read before and what is left decide as all did.
use Rattle.std.proofs.Common.{◌≡◌, ◌<◌, List, [], ◌∷◌, ◌++◌, length, map, Option, None, Some, refl, sym, ap, ◌∙◌, append_assoc, append-nil, arith}
use Rattle.std.proofs.lemmas.List.{length-map, map-append}
use Rattle.qasm_lexer.specs.declared.token.Token.{Token}
use Rattle.qasm_lexer.specs.declared.token.TokenKind.TheVariants as kind
use Rattle.qasm_lexer.specs.Tokens.{Lexeme, lexeme, lexemes}
use Rattle.qasm_reader.specs.declared.step_error.StepError.{StepError}
use Rattle.qasm_reader.specs.declared.step_error.StepError.TheVariants.{Misfit, NoMemory}
use Rattle.qasm_reader.specs.Internal.Taking.{Fails, after, with_prefix, on_turn, one_more, comma_turn, comma_items}
use Rattle.qasm_reader.proofs.Steps.{Shrinks, after_shrinks}
use Rattle.qasm_reader.proofs.Lists.{comma_items_is}

-- a prefix before a prefix
prefixes : {A : Type 0} (prefix : List A) (x : A) (o : Option (List A × List Lexeme)) → with_prefix prefix (with_prefix (x ∷ []) o) ≡ with_prefix (prefix ++ x ∷ []) o
prefixes prefix x None = refl
prefixes prefix x (Some y) = ap (λ (xs : List _). Some (xs, y.1)) (sym (append_assoc prefix (x ∷ []) y.0))

-- fewer tokens
pub fewer : (rest end : List Token) → length (lexemes end) < length (lexemes rest) → length end < length rest
fewer rest end lt = omega (arith, lt, length-map rest lexeme, length-map end lexeme)

pushed : {X A : Type 0} (view : X → A) (items items' : List X) (x : X) → items' ≡ items ++ x ∷ [] → map view items' ≡ map view items ++ view x ∷ []
pushed view items items' x is = ap (map view) is ∙ map-append view items (x ∷ [])

-- ---- lists with commas

pub comma_smaller : {A : Type 0} (item : List Lexeme → Option (A × List Lexeme)) → Shrinks item → (rest end : List Token) (following : List Lexeme) (x : A)
    → Some following ≡ after kind.Comma (lexemes rest) → item following ≡ Some (x, lexemes end) → length end < length rest
comma_smaller item s rest end following x comma is =
    fewer rest end (omega (arith, after_shrinks kind.Comma (lexemes rest) following (sym comma), s following x (lexemes end) is))

pub comma_goes_on : {X A : Type 0} (view : X → A) (item : List Lexeme → Option (A × List Lexeme)) → Shrinks item → (items items' : List X) (x : X) (ts following end : List Lexeme) (total : Option (List A × List Lexeme))
    → items' ≡ items ++ x ∷ [] → Some following ≡ after kind.Comma ts → item following ≡ Some (view x, end)
    → with_prefix (map view items) (comma_items item ts) ≡ total → with_prefix (map view items') (comma_items item end) ≡ total
comma_goes_on view item s items items' x ts following end total push comma is so_far =
    ap (λ (prefix : List _). with_prefix prefix (comma_items item end)) (pushed view items items' x push)
    ∙ sym (prefixes (map view items) (view x) (comma_items item end))
    ∙ ap (with_prefix (map view items)) (sym (comma_items_is item s ts ∙ ap (λ o. on_turn (comma_turn item o) ts (comma_items item)) (sym comma) ∙ ap (λ o. on_turn (one_more o) ts (comma_items item)) is))
    ∙ so_far

pub comma_fails : {A : Type 0} (item : List Lexeme → Option (A × List Lexeme)) → Shrinks item → (e : StepError) (prefix : List A) (ts following : List Lexeme) (total : Option (List A × List Lexeme))
    → Some following ≡ after kind.Comma ts → Fails e (item following) → with_prefix prefix (comma_items item ts) ≡ total → Fails e total
comma_fails item s NoMemory prefix ts following total comma is so_far = tt
comma_fails item s Misfit prefix ts following total comma is so_far =
    sym so_far ∙ ap (with_prefix prefix) (comma_items_is item s ts ∙ ap (λ o. on_turn (comma_turn item o) ts (comma_items item)) (sym comma) ∙ ap (λ o. on_turn (one_more o) ts (comma_items item)) is)

pub comma_stops : {A : Type 0} (item : List Lexeme → Option (A × List Lexeme)) → Shrinks item → (prefix : List A) (ts : List Lexeme) (total : Option (List A × List Lexeme))
    → None ≡ after kind.Comma ts → with_prefix prefix (comma_items item ts) ≡ total → total ≡ Some (prefix, ts)
comma_stops item s prefix ts total comma so_far =
    sym so_far ∙ ap (with_prefix prefix) (comma_items_is item s ts ∙ ap (λ o. on_turn (comma_turn item o) ts (comma_items item)) (sym comma))
    ∙ ap (λ (xs : List _). Some (xs, ts)) (append-nil prefix)
