-- What bytes spell, put together from pieces.
use Rattle.std.proofs.Common.{◌≡◌, ℕ, ◌+◌, ◌-◌, ◌<◌, Bool, true, false, not, List, [], ◌∷◌, ◌++◌, codes, length, take, drop, map, Option, None, Some, refl, sym, ap, ◌∙◌, subst, append_assoc, append-nil, arith, length-append}
use Rattle.std.specs.List.{concat, list_all, prefix_len}
use Rattle.std.specs.Option.{option_map, option_or, option_to_list, is_some}
use Rattle.std.specs.Char.{is_ascii_digit, is_ascii_alphabetic, is_ascii_lowercase}
use Rattle.std.specs.Prelude.{if◌then◌else◌}
use Rattle.std.proofs.lemmas.Bool.{false≢true, and_parts, and_from}
use Rattle.std.proofs.lemmas.List.{length-map, map-append, take-append-drop, take_rest}
use Rattle.qasm_lexer.specs.declared.token.TokenKind.{TokenKind}
use Rattle.qasm_lexer.specs.declared.token.TokenKind.TheVariants as kind
use Rattle.qasm_lexer.specs.Forms.{begins, following, is_natural, is_space, is_word, is_word_byte}
use Rattle.qasm_lexer.specs.Tokens.{ArePieces, IsPiece, Lexeme, kind_in, token_kind, signs, tokens_in, word_kind, words}
use Rattle.qasm_lexer.specs.Internal.FirstPiece.{is_plain}
use Rattle.qasm_lexer.specs.Internal.Moved.{moved}
use Rattle.qasm_lexer.proofs.Cuts.{IsCutUpTo-none, IsCutUpTo-then, form_some}
use Rattle.qasm_lexer.proofs.Leads.{piece_form, table_all}
use Rattle.qasm_lexer.proofs.Runs.{after_stops, drop-following, prefix, prefix-following, prefix_passes, take-prefix}
use Rattle.std.specs.Str.{bytes_eq}
use Rattle.std.proofs.lemmas.Slice.Eq.{bytes_eq-Decides}
use Rattle.qasm_lexer.proofs.Pieces as pieces
use Rattle.qasm_lexer.proofs.Pieces.{ends_sign-plain}
use Rattle.qasm_reader.specs.Depth.{IsDepth, open_after}
use Rattle.qasm_reader.specs.declared.depth.Depth.TheVariants.{Open}
use Rattle.qasm_reader.specs.Grammar.{◌⋅◌, IsArgument, IsIdentifier, IsIndex, Sign, Word}
use Rattle.qasm_reader.specs.Syntax.{Operand}
use Rattle.qasm_reader.proofs.DepthSteps.{depth-open}
use Rattle.qasm_inline.specs.Internal.Spellings.{AreFlat, AreMore, AreNone, IsSpelled, is_free}

-- ---- one after the other
flat-append : (us vs : List Lexeme) → AreFlat us → AreFlat vs → AreFlat (us ++ vs)
flat-append [] vs a b = b
flat-append (u ∷ us) vs a b = (a.0, flat-append us vs a.1 b)

pub spelled-then : {A B : List Lexeme → Type 0} {text middle rest : List ℕ} → IsSpelled A text middle → IsSpelled B middle rest → IsSpelled (A ⋅ B) text rest
spelled-then {A} {B} {text} {middle} {rest} first next from place =
    let a = first from place in
    let at = place + length text - length middle in
    let b = next from at in
    let there : at + length middle ≡ place + length text = omega (arith, ap length a.cut.whole, length-append (concat a.cut.pieces) middle) in
    let same = map-append (moved from) a.tokens b.tokens in
    record {
      tokens = a.tokens ++ b.tokens;
      cut = IsCutUpTo-then place at text middle rest a.tokens b.tokens a.cut b.cut there;
      are = (map (moved from) a.tokens, map (moved from) b.tokens, same, a.are, b.are);
      flat = subst AreFlat (sym same) (flat-append _ _ a.flat b.flat);
    }

pub spelled-as : {A : List Lexeme → Type 0} (B : List Lexeme → Type 0) {text rest : List ℕ} → ((ts : List Lexeme) → A ts → B ts) → IsSpelled A text rest → IsSpelled B text rest
spelled-as B weaker h from place =
    let a = h from place in
    record { tokens = a.tokens; cut = a.cut; are = weaker (map (moved from) a.tokens) a.are; flat = a.flat }

none-first : (B : List Lexeme → Type 0) (ts : List Lexeme) → (AreNone ⋅ B) ts → B ts
none-first B ts (us, vs, e, none, b) = subst B (sym (e ∙ ap (λ u. u ++ vs) none)) b

-- white space before it
pub spelled-behind : {B : List Lexeme → Type 0} {text middle rest : List ℕ} → IsSpelled AreNone text middle → IsSpelled B middle rest → IsSpelled B text rest
spelled-behind {B} first next = spelled-as B (none-first B) (spelled-then first next)

pub spelled-nothing : (text : List ℕ) → IsSpelled AreNone text text
spelled-nothing text from place = record { tokens = []; cut = IsCutUpTo-none place text; are = refl; flat = tt }

-- ---- pieces
one-token : (piece after : List ℕ) (k : TokenKind) → IsPiece piece after × (token_kind piece ≡ Some k) → open_after 0 k ≡ 0 → IsSpelled (Word k piece) (piece ++ after) after
one-token piece after k p flat from place = record {
  tokens = record { kind = k; text = piece; place = place } ∷ [];
  cut = record {
    pieces = piece ∷ [];
    whole = ap (λ q. q ++ after) (sym (append-nil piece));
    each = (p.0, tt);
    tokens_are = sym (ap (λ o. option_to_list (option_map (λ kind. record { kind = kind; text = piece; place = place }) o) ++ []) p.1);
  };
  are = (_, refl, refl, refl);
  flat = (flat, tt);
}

pub spelled-space : (b : ℕ) (after : List ℕ) → is_space b ≡ true → IsSpelled AreNone (b ∷ after) after
spelled-space b after e from place = record {
  tokens = [];
  cut = record {
    pieces = (b ∷ []) ∷ [];
    whole = refl;
    each = (pieces.white_piece b after e, tt);
    tokens_are = sym (ap (λ o. option_to_list (option_map (λ kind. record { kind = kind; text = b ∷ []; place = place }) o) ++ []) (pieces.white_kind b e));
  };
  are = refl;
  flat = tt;
}

pub spelled-word : (word after : List ℕ) (k : TokenKind) → is_word word ≡ true → begins is_word_byte after ≡ false → word_kind word ≡ Some k → open_after 0 k ≡ 0
    → IsSpelled (Word k word) (word ++ after) after
spelled-word [] after k e stop is flat = absurd (false≢true e)
spelled-word (b ∷ p) after k e stop is flat =
    let h : (is_ascii_alphabetic b ≡ true) × (list_all is_word_byte p ≡ true) = and_parts (is_ascii_alphabetic b) (list_all is_word_byte p) e in
    one-token (b ∷ p) after k (pieces.word_piece b p after k h.0 h.1 stop is) flat

word-sign : (k : TokenKind) (text : List ℕ) (ts : List Lexeme) → Word k text ts → Sign k ts
word-sign k text ts (t, same, spelled, e) = (t, same, e)

pub spelled-sign : (a : ℕ) (after : List ℕ) (k : TokenKind) → kind_in signs (a ∷ []) ≡ Some k → is_plain a ≡ true → open_after 0 k ≡ 0 → IsSpelled (Sign k) (a ∷ after) after
spelled-sign a after k is plain flat =
    spelled-as (Sign k) (word-sign k (a ∷ [])) (one-token (a ∷ []) after k (pieces.short_sign_piece a after k is (ends_sign-plain a after plain)) flat)

spelled-natural : (digits after : List ℕ) → list_all is_ascii_digit digits ≡ true → is_natural digits ≡ true → IsSpelled (Word kind.Natural digits) (digits ++ 93 ∷ after) (93 ∷ after)
spelled-natural [] after all e = absurd (false≢true e)
spelled-natural (b ∷ p) after all e = one-token (b ∷ p) (93 ∷ after) kind.Natural (pieces.natural_piece b p (93 ∷ after) all e refl) refl

-- an index in brackets
pub spelled-index : (digits after : List ℕ) → list_all is_ascii_digit digits ≡ true → is_natural digits ≡ true
    → IsSpelled (IsIndex (Some digits)) (91 ∷ digits ++ 93 ∷ after) after
spelled-index digits after all e =
    spelled-then (spelled-sign 91 (digits ++ 93 ∷ after) kind.LeftBracket refl refl refl)
    (spelled-then (spelled-natural digits after all e) (spelled-sign 93 after kind.RightBracket refl refl refl))

-- one more argument
pub spelled-more : (text middle rest : List ℕ) (o : Operand) → text ≡ 44 ∷ middle → IsSpelled (IsArgument o) middle rest → IsSpelled (AreMore (o ∷ [])) text rest
spelled-more text middle rest o begins argument =
    spelled-then (spelled-then (subst (λ t. IsSpelled (Sign kind.Comma) t middle) (sym begins) (spelled-sign 44 middle kind.Comma refl refl refl)) argument) (spelled-nothing rest)

-- ---- words that are no keywords

abbrev taken : List ℕ → Bool
taken word = not (is_free word)

no_keyword : (word : List ℕ) → is_free word ≡ true → kind_in words word ≡ None
no_keyword word free = by_value (kind_in words word) refl where
  by_value : (o : Option TokenKind) → kind_in words word ≡ o → o ≡ None
  by_value None e = refl
  by_value (Some k) e =
      let t : not (is_free word) ≡ true = table_all taken words refl word (ap is_some e) in
      absurd (false≢true (sym (ap not free) ∙ t))

lowercase : (word : List ℕ) → is_free word ≡ true → begins is_ascii_lowercase word ≡ true
lowercase [] e = absurd (false≢true e)
lowercase (a ∷ []) e = e
lowercase (a ∷ b ∷ []) e = (and_parts (is_ascii_lowercase a) _ e).0
lowercase (a ∷ b ∷ c ∷ rest) e = (and_parts (is_ascii_lowercase a) _ e).0

free_kind : (word : List ℕ) → is_free word ≡ true → word_kind word ≡ Some kind.Identifier
free_kind word free =
    ap (λ o. option_or o (if begins is_ascii_lowercase word then Some kind.Identifier else None)) (no_keyword word free)
    ∙ ap (λ b. if b then Some kind.Identifier else None) (lowercase word free)

letter : (a : ℕ) → is_ascii_lowercase a ≡ true → is_ascii_alphabetic a ≡ true
letter a e = grind arith

free_word : (word : List ℕ) → is_free word ≡ true → list_all is_word_byte word ≡ true → is_word word ≡ true
free_word [] e all = absurd (false≢true e)
free_word (a ∷ rest) e all =
    and_from (is_ascii_alphabetic a) (list_all is_word_byte rest) (letter a (lowercase (a ∷ rest) e)) (and_parts (is_word_byte a) (list_all is_word_byte rest) all).1

-- the word at the start of a text
spelled-prefix : (text : List ℕ) (count : ℕ) (k : TokenKind) → count ≡ prefix_len is_word_byte text → is_word (take count text) ≡ true → word_kind (take count text) ≡ Some k → open_after 0 k ≡ 0
    → IsSpelled (Word k (take count text)) text (take (length text - count) (drop count text))
spelled-prefix text count k e is same flat =
    let after = following is_word_byte text in
    let word : take count text ≡ prefix is_word_byte text = ap (λ n. take n text) e ∙ take-prefix is_word_byte text in
    let behind : take (length text - count) (drop count text) ≡ after = take_rest text count ∙ ap (λ n. drop n text) e ∙ drop-following is_word_byte text in
    let whole : take count text ++ after ≡ text = ap (λ w. w ++ after) word ∙ prefix-following is_word_byte text in
    subst (λ r. IsSpelled (Word k (take count text)) text r) (sym behind)
    (subst (λ t. IsSpelled (Word k (take count text)) t after) whole (spelled-word (take count text) after k is (after_stops is_word_byte text) same flat))

pub first-identifier : (text : List ℕ) (count : ℕ) → count ≡ prefix_len is_word_byte text → is_free (take count text) ≡ true
    → IsSpelled (IsIdentifier (take count text)) text (take (length text - count) (drop count text))
first-identifier text count e free =
    let word : take count text ≡ prefix is_word_byte text = ap (λ n. take n text) e ∙ take-prefix is_word_byte text in
    spelled-prefix text count kind.Identifier e
    (free_word (take count text) free (ap (list_all is_word_byte) word ∙ prefix_passes is_word_byte text)) (free_kind (take count text) free) refl

pub first-cx : (text : List ℕ) (count : ℕ) → count ≡ prefix_len is_word_byte text → bytes_eq (take count text) (codes "CX") ≡ true
    → IsSpelled (Sign kind.Cx) text (take (length text - count) (drop count text))
first-cx text count e same =
    let word : take count text ≡ codes "CX" = (bytes_eq-Decides (take count text) (codes "CX")).0 same in
    spelled-as (Sign kind.Cx) (word-sign kind.Cx (take count text)) (spelled-prefix text count kind.Cx e (ap is_word word) (ap word_kind word) refl)

-- digits in brackets at the start
pub first-index : (text inside rest : List ℕ) (count : ℕ) → text ≡ 91 ∷ inside → count ≡ prefix_len is_ascii_digit inside → take (length inside - count) (drop count inside) ≡ 93 ∷ rest
    → (list_all is_ascii_digit (take count inside) ≡ true → is_natural (take count inside) ≡ true) → IsSpelled (IsIndex (Some (take count inside))) text rest
first-index text inside rest count begins e ends natural =
    let digits : take count inside ≡ prefix is_ascii_digit inside = ap (λ n. take n inside) e ∙ take-prefix is_ascii_digit inside in
    let all : list_all is_ascii_digit (take count inside) ≡ true = ap (list_all is_ascii_digit) digits ∙ prefix_passes is_ascii_digit inside in
    let behind : drop count inside ≡ 93 ∷ rest = sym (take_rest inside count) ∙ ends in
    let whole : 91 ∷ take count inside ++ 93 ∷ rest ≡ text =
    ap (λ r. 91 ∷ take count inside ++ r) (sym behind) ∙ ap (λ t. 91 ∷ t) (take-append-drop count inside) ∙ sym begins in
    subst (λ t. IsSpelled (IsIndex (Some (take count inside))) t rest) whole (spelled-index (take count inside) rest all (natural all))

-- ---- parentheses
pub flat-depth : (before ts : List Lexeme) → IsDepth (Open 0) before → AreFlat ts → IsDepth (Open 0) (before ++ ts)
flat-depth before [] d flat = subst (IsDepth (Open 0)) (sym (append-nil before)) d
flat-depth before (t ∷ ts) d flat =
    subst (IsDepth (Open 0)) (append_assoc before (t ∷ []) ts) (flat-depth (before ++ t ∷ []) ts (depth-open 0 before t 0 (λ few. sym flat.0) d) flat.1)

-- ---- the rest is shorter
cut-shorter : (place : ℕ) (text rest : List ℕ) (tokens : List Lexeme) (ps : List (List ℕ)) → text ≡ concat ps ++ rest → ArePieces ps rest → tokens ≡ tokens_in place ps → 0 < length tokens → length rest < length text
cut-shorter place text rest tokens [] whole each are some = absurd (omega (arith, ap length are, some))
cut-shorter place text rest tokens (p ∷ ps) whole each are some =
    omega (arith, form_some p (piece_form p (concat ps ++ rest) each.0), ap length whole, length-append p (concat ps), length-append (p ++ concat ps) rest)

pub spelled-shorter : (Is : List Lexeme → Type 0) (text rest : List ℕ) → IsSpelled Is text rest → ((ts : List Lexeme) → Is ts → 0 < length ts) → length rest < length text
spelled-shorter Is text rest h some =
    let a = h 0 0 in
    cut-shorter 0 text rest a.tokens a.cut.pieces a.cut.whole a.cut.each a.cut.tokens_are (omega (arith, some _ a.are, length-map a.tokens (moved 0)))
