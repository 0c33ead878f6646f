-- Cuts of texts whose words, numbers and signs are known, put together from the end: what follows a piece is cut
-- already, and begins at the place `next`.
use Rattle.std.proofs.Common.{◌≡◌, ℕ, ◌+◌, ◌/◌, ◌%◌, ◌^◌, ◌<◌, ◌≤◌, Bool, true, false, not, eqb, leb, List, [], ◌∷◌, ◌++◌, length, refl, sym, ap, ◌∙◌, subst, arith, inl, inr, None, Some, append_assoc, decimal}
use Rattle.std.specs.Option.{option_map, option_to_list}
use Rattle.std.specs.List.{list_all, concat}
use Rattle.std.proofs.lemmas.Bool.{false≢true, and_parts, and_from, le-leb, ne_eqb, not-true, not_from_false, cases_eq}
use Rattle.qasm_lexer.proofs.Runs.{begins_append}
use Rattle.std.proofs.lemmas.Fmt.{decimal_by_steps}
use Rattle.std.proofs.lemmas.List.Folds.{list_all-append}
use Rattle.qasm_lexer.specs.declared.token.TokenKind.{TokenKind}
use Rattle.qasm_lexer.specs.declared.token.TokenKind.TheVariants.{Natural}
use Rattle.std.specs.Char.{is_ascii_digit, is_ascii_alphabetic}
use Rattle.qasm_lexer.specs.Forms.{begins, is_space, is_word_byte, is_word, is_natural}
use Rattle.qasm_lexer.specs.Tokens.{signs, kind_in, token_kind, word_kind, IsPiece, Lexeme, IsCut}
use Rattle.qasm_lexer.specs.Internal.FirstPiece.{is_plain}
use Rattle.qasm_lexer.proofs.Pieces as pieces
use Rattle.qasm_lexer.proofs.Pieces.{ends_number, ends_sign, ends_sign-plain}
use Rattle.qasm_lexer.proofs.Cuts.{IsCutUpTo-none}

-- the empty text
pub IsCut-nil : (place : ℕ) → IsCut place [] []
IsCut-nil place = IsCutUpTo-none place []

-- a piece before a cut
piece_before : (place : ℕ) (piece after : List ℕ) (tokens : List Lexeme) → IsPiece piece after → IsCut (place + length piece) after tokens
    → IsCut place (piece ++ after)
    (option_to_list (option_map (λ kind. record { kind = kind; text = piece; place = place }) (token_kind piece)) ++ tokens)
piece_before place piece after tokens p c =
    let here : List Lexeme = option_to_list (option_map (λ kind. record { kind = kind; text = piece; place = place }) (token_kind piece)) in
    record {
      pieces = piece ∷ c.pieces;
      whole = ap (λ r. piece ++ r) c.whole ∙ sym (append_assoc piece (concat c.pieces) []);
      each = (subst (λ r. IsPiece piece r) c.whole p, c.each);
      tokens_are = ap (λ r. here ++ r) c.tokens_are;
    }

pub IsCut-token : (place : ℕ) (piece after : List ℕ) (kind : TokenKind) (tokens : List Lexeme) → IsPiece piece after × (token_kind piece ≡ Some kind)
    → IsCut (place + length piece) after tokens → IsCut place (piece ++ after) (record { kind = kind; text = piece; place = place } ∷ tokens)
IsCut-token place piece after kind tokens p c =
    subst (λ o. IsCut place (piece ++ after) (option_to_list (option_map (λ kind. record { kind = kind; text = piece; place = place }) o) ++ tokens)) p.1
    (piece_before place piece after tokens p.0 c)

pub IsCut-blank : (place : ℕ) (piece after : List ℕ) (tokens : List Lexeme) → IsPiece piece after → token_kind piece ≡ None
    → IsCut (place + length piece) after tokens → IsCut place (piece ++ after) tokens
IsCut-blank place piece after tokens p none c =
    subst (λ o. IsCut place (piece ++ after) (option_to_list (option_map (λ kind. record { kind = kind; text = piece; place = place }) o) ++ tokens)) none
    (piece_before place piece after tokens p c)

-- a byte of white space
pub IsCut-space : {place : ℕ} {after : List ℕ} {tokens : List Lexeme} (b next : ℕ) → is_space b ≡ true → next ≡ place + 1
    → IsCut next after tokens → IsCut place (b ∷ after) tokens
IsCut-space {place} {after} {tokens} b next e there c =
    IsCut-blank place (b ∷ []) after tokens (pieces.white_piece b after e) (pieces.white_kind b e) (subst (λ k. IsCut k after tokens) there c)

-- a word, before a byte that no word has, or the end
pub IsCut-word : {place : ℕ} {after : List ℕ} {kind : TokenKind} {tokens : List Lexeme} (word : List ℕ) (next : ℕ) → is_word word ≡ true
    → word_kind word ≡ Some kind → begins is_word_byte after ≡ false → next ≡ place + length word → IsCut next after tokens
    → IsCut place (word ++ after) (record { kind = kind; text = word; place = place } ∷ tokens)
IsCut-word [] next e is stop there c = absurd (false≢true e)
IsCut-word {place} {after} {kind} {tokens} (b ∷ p) next e is stop there c =
    let h : (is_ascii_alphabetic b ≡ true) × (list_all is_word_byte p ≡ true) = and_parts (is_ascii_alphabetic b) (list_all is_word_byte p) e in
    IsCut-token place (b ∷ p) after kind tokens (pieces.word_piece b p after kind h.0 h.1 stop is) (subst (λ k. IsCut k after tokens) there c)

-- decimal digits without a leading zero, before what isn't a digit or a point, or the end
pub IsCut-natural : {place : ℕ} {after : List ℕ} {tokens : List Lexeme} (digits : List ℕ) (next : ℕ) → list_all is_ascii_digit digits ≡ true
    → is_natural digits ≡ true → ends_number after ≡ true → next ≡ place + length digits → IsCut next after tokens
    → IsCut place (digits ++ after) (record { kind = Natural; text = digits; place = place } ∷ tokens)
IsCut-natural [] next all e ends there c = absurd (false≢true e)
IsCut-natural {place} {after} {tokens} (b ∷ p) next all e ends there c =
    IsCut-token place (b ∷ p) after Natural tokens (pieces.natural_piece b p after all e ends) (subst (λ k. IsCut k after tokens) there c)

-- a sign of one byte, where no longer sign and no comment begins
pub IsCut-sign : {place : ℕ} {after : List ℕ} {kind : TokenKind} {tokens : List Lexeme} (a next : ℕ) → kind_in signs (a ∷ []) ≡ Some kind
    → ends_sign a after ≡ true → next ≡ place + 1 → IsCut next after tokens
    → IsCut place (a ∷ after) (record { kind = kind; text = a ∷ []; place = place } ∷ tokens)
IsCut-sign {place} {after} {kind} {tokens} a next is ends there c =
    IsCut-token place (a ∷ []) after kind tokens (pieces.short_sign_piece a after kind is ends) (subst (λ k. IsCut k after tokens) there c)

-- a sign that begins no longer sign and no comment, whatever follows it
pub IsCut-plain_sign : {place : ℕ} {after : List ℕ} {kind : TokenKind} {tokens : List Lexeme} (a next : ℕ) → kind_in signs (a ∷ []) ≡ Some kind
    → is_plain a ≡ true → next ≡ place + 1 → IsCut next after tokens
    → IsCut place (a ∷ after) (record { kind = kind; text = a ∷ []; place = place } ∷ tokens)
IsCut-plain_sign {place} {after} {kind} {tokens} a next is plain there c = IsCut-sign a next is (ends_sign-plain a after plain) there c

abbrev is_nonzero : ℕ → Bool
is_nonzero b = not (eqb b 48)

record IsDecimal (n : ℕ) (ds : List ℕ) : Type 0 where
  pub digits : list_all is_ascii_digit ds ≡ true
  pub some : 0 < n → begins is_nonzero ds ≡ true
  pub none : n ≡ 0 → ds ≡ 48 ∷ []

digit_glyph : (d : ℕ) → d < 10 → is_ascii_digit (48 + d) ≡ true
digit_glyph d h = and_from (leb 48 (48 + d)) (leb (48 + d) 57) (le-leb 48 (48 + d) (omega arith)) (le-leb (48 + d) 57 (omega arith))

decimal_is : (n : ℕ) → n < 2 ^ 64 → IsDecimal n (decimal n)
decimal_is n small = decimal_by_steps IsDecimal one more n small where
  one : (n : ℕ) → n < 10 → IsDecimal n ((48 + n) ∷ [])
  one n h = record {
    digits = and_from (is_ascii_digit (48 + n)) true (digit_glyph n h) refl;
    some = λ k. not_from_false (eqb (48 + n) 48) (ne_eqb (48 + n) 48 (λ z. omega arith));
    none = λ z. ap (λ m. (48 + m) ∷ []) z;
  }

  more : (n : ℕ) (ds : List ℕ) → 10 ≤ n → IsDecimal (n / 10) ds → IsDecimal n (ds ++ ((48 + n % 10) ∷ []))
  more n ds h d = record {
    digits = list_all-append is_ascii_digit ds ((48 + n % 10) ∷ []) ∙ and_from _ _ d.digits (and_from (is_ascii_digit (48 + n % 10)) true (digit_glyph (n % 10) (omega arith)) refl);
    some = λ k. begins_append is_nonzero ds ((48 + n % 10) ∷ []) (d.some (omega arith));
    none = λ z. absurd (omega arith);
  }

pub digits_decimal : (n : ℕ) → n < 2 ^ 64 → list_all is_ascii_digit (decimal n) ≡ true
digits_decimal n small = (decimal_is n small).digits

pub is_natural-decimal : (n : ℕ) → n < 2 ^ 64 → is_natural (decimal n) ≡ true
is_natural-decimal n small = elim (cases_eq n 0) [
  | inl z ↦ ap is_natural ((decimal_is n small).none z)
  | inr z ↦ nonzero_natural (decimal n) ((decimal_is n small).some (omega arith)) (digits_decimal n small)
] where
  nonzero_natural : (ds : List ℕ) → begins is_nonzero ds ≡ true → list_all is_ascii_digit ds ≡ true → is_natural ds ≡ true
  nonzero_natural [] e all = absurd (false≢true e)
  nonzero_natural (b ∷ ds) e all = rw (not-true (eqb b 48) e) all

-- the decimal numeral of a number, before what isn't a digit or a point, or the end
pub IsCut-decimal : {place : ℕ} {after : List ℕ} {tokens : List Lexeme} (n next : ℕ) → n < 2 ^ 64 → ends_number after ≡ true
    → next ≡ place + length (decimal n) → IsCut next after tokens
    → IsCut place (decimal n ++ after) (record { kind = Natural; text = decimal n; place = place } ∷ tokens)
IsCut-decimal n next small ends there c =
    IsCut-natural (decimal n) next (digits_decimal n small) (is_natural-decimal n small) ends there c
