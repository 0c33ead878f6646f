-- Cuts and bad bytes of lines stand, whatever follows them.
use Rattle.std.proofs.Common.{◌≡◌, ℕ, ◌+◌, ◌<◌, ◌≤◌, ◌^◌, true, List, [], ◌∷◌, ◌++◌, length, take, drop, map, refl, sym, ap, ◌∙◌, subst, arith, inl, inr, Option, None, Some, append_assoc, length-append, length-drop}
use Rattle.std.specs.List.{concat, All}
use Rattle.std.specs.Option.{option_map, option_to_list}
use Rattle.std.proofs.lemmas.List.{append-nil, take-append-drop, drop-append-le}
use Rattle.std.proofs.lemmas.List.Elements.{All-nil, All-cons}
use Rattle.std.proofs.Math.Seq.{drop-append-add}
use Rattle.qasm_lexer.specs.declared.token.Token.{Token}
use Rattle.qasm_lexer.specs.declared.token.TokenKind.{TokenKind}
use Rattle.qasm_lexer.specs.Tokens.{is_form, token_kind, IsPiece, ArePieces, Lexeme, lexemes, tokens_in, IsCut, IsCutUpTo, HasNoPiece, IsBadByte}
use Rattle.qasm_lexer.specs.Internal.Moved.{moved}
use Rattle.qasm_lexer.specs.Taken.{AreLines, IsLineBegun}
use Rattle.qasm_lexer.proofs.Leads.{IsLongest, piece_form}
use Rattle.qasm_lexer.proofs.Cuts.{IsCutUpTo-then, IsCutUpTo-none, same_tokens}
use Rattle.qasm_lexer.proofs.Feeds.{feed_alone, prefixes, longest_on, ends_on, pieces_on}

-- pieces before what ends with a line feed stay so
pieces_stay : (ps : List (List ℕ)) (z after : List ℕ) → ArePieces ps (z ++ 10 ∷ []) → ArePieces ps ((z ++ 10 ∷ []) ++ after)
pieces_stay [] z after a = tt
pieces_stay (p ∷ ps) z after a =
    let end : p ++ (concat ps ++ (z ++ 10 ∷ [])) ≡ (p ++ (concat ps ++ z)) ++ 10 ∷ [] =
    ap (λ r. p ++ r) (sym (append_assoc (concat ps) z (10 ∷ []))) ∙ sym (append_assoc p (concat ps ++ z) (10 ∷ [])) in (
      record {
        longest = subst (IsLongest p) (append_assoc (concat ps) (z ++ 10 ∷ []) after) (longest_on p (concat ps ++ (z ++ 10 ∷ [])) (p ++ (concat ps ++ z)) after end a.0.longest);
        taken = a.0.taken;
      },
      pieces_stay ps z after a.1,
    )

-- where no piece begins before a line feed, none does, whatever follows that
no_piece_stays : (z after : List ℕ) → HasNoPiece (z ++ 10 ∷ []) → HasNoPiece ((z ++ 10 ∷ []) ++ after)
no_piece_stays z after none = (omega (arith, none.0, length-append (z ++ 10 ∷ []) after), each) where
  each : (form behind : List ℕ) → form ++ behind ≡ (z ++ 10 ∷ []) ++ after → IsPiece form behind → ⊥
  each form behind e piece = elim (prefixes form (z ++ 10 ∷ []) behind after e) [
    | inl h ↦
        none.1 form h.0 h.1 (record {
          taken = piece.taken;
          longest = λ other rest t f.
              piece.longest other (rest ++ after)
              (sym (append_assoc other rest after) ∙ ap (λ r. r ++ after) (t ∙ h.1) ∙ sym e) f;
        })
    | inr h ↦
        (let all : z ++ 10 ∷ h.0 ≡ form = sym (append_assoc z (10 ∷ []) h.0) ∙ h.1 in
        let nothing : h.0 ≡ [] = feed_alone z h.0 (subst (λ r. is_form r ≡ true) (sym all) (piece_form form behind piece)) in
        omega (arith, ap length nothing, h.2))
  ]

-- a bad byte of lines stays, whatever follows them
pub bad_byte_stays : (text after : List ℕ) (at : ℕ) → AreLines text → IsBadByte text at → IsBadByte (text ++ after) at
bad_byte_stays text after at (inl none) bad = absurd (omega (arith, ap length none, length-drop at text, bad.2.0))
bad_byte_stays text after at (inr (y, end)) bad =
    let rest : (z : List ℕ) × (drop at text ≡ z ++ 10 ∷ []) = ends_on (take at text) (drop at text) y (take-append-drop at text ∙ end) bad.2.0 in
    let behind : drop at text ++ after ≡ drop at (text ++ after) = sym (drop-append-le at text after (omega (arith, length-drop at text, bad.2.0))) in
    let cut : IsCutUpTo 0 (text ++ after) (drop at text ++ after) bad.0 = record {
      pieces = bad.1.pieces;
      whole = ap (λ r. r ++ after) bad.1.whole ∙ append_assoc (concat bad.1.pieces) (drop at text) after;
      each = subst (λ r. ArePieces bad.1.pieces (r ++ after)) (sym rest.1) (pieces_stay bad.1.pieces rest.0 after (subst (ArePieces bad.1.pieces) rest.1 bad.1.each));
      tokens_are = bad.1.tokens_are;
    } in
    let none : HasNoPiece (drop at text ++ after) = subst (λ r. HasNoPiece (r ++ after)) (sym rest.1) (no_piece_stays rest.0 after (subst HasNoPiece rest.1 bad.2)) in
    (bad.0, subst (λ r. IsCutUpTo 0 (text ++ after) r bad.0) behind cut, subst HasNoPiece behind none)

-- ---- a text that stands further on
moved_here : (k place : ℕ) (piece : List ℕ) (o : Option TokenKind) (more : List Lexeme)
    → map (moved k) (option_to_list (option_map (λ kind. record { kind = kind; text = piece; place = place }) o) ++ more)
    ≡ option_to_list (option_map (λ kind. record { kind = kind; text = piece; place = k + place }) o) ++ map (moved k) more
moved_here k place piece None more = refl
moved_here k place piece (Some kind) more = refl

tokens_in-moved : (k place : ℕ) (ps : List (List ℕ)) → map (moved k) (tokens_in place ps) ≡ tokens_in (k + place) ps
tokens_in-moved k place [] = refl
tokens_in-moved k place (p ∷ ps) =
    let e : k + (place + length p) ≡ (k + place) + length p = omega arith in
    moved_here k place p (token_kind p) (tokens_in (place + length p) ps)
    ∙ ap (λ r. option_to_list (option_map (λ kind. record { kind = kind; text = p; place = k + place }) (token_kind p)) ++ r)
    (tokens_in-moved k (place + length p) ps ∙ ap (λ n. tokens_in n ps) e)

moved_cut : (k : ℕ) (text rest : List ℕ) (tokens : List Lexeme) → IsCutUpTo 0 text rest tokens → IsCutUpTo k text rest (map (moved k) tokens)
moved_cut k text rest tokens c = record {
  pieces = c.pieces;
  whole = c.whole;
  each = c.each;
  tokens_are = ap (map (moved k)) c.tokens_are ∙ tokens_in-moved k 0 c.pieces ∙ ap (λ n. tokens_in n c.pieces) (omega arith);
}

-- lines that are cut begin a cut
lines_first : (lines after : List ℕ) (tokens : List Lexeme) → AreLines lines → IsCut 0 lines tokens → IsCutUpTo 0 (lines ++ after) after tokens
lines_first lines after tokens (inl none) c =
    let nothing : tokens ≡ [] = same_tokens [] 0 tokens [] (subst (λ l. IsCut 0 l tokens) none c) (IsCutUpTo-none 0 []) in
    rw (none, nothing) (IsCutUpTo-none 0 after)
lines_first lines after tokens (inr (y, end)) c =
    let whole : concat c.pieces ≡ lines = sym (append-nil (concat c.pieces)) ∙ sym c.whole in
    record {
      pieces = c.pieces;
      whole = ap (λ r. r ++ after) (sym whole);
      each = pieces_on c.pieces y after (inr (whole ∙ end)) c.each;
      tokens_are = c.tokens_are;
    }

cut_behind : (lines line rest : List ℕ) (these those : List Lexeme) → AreLines lines → IsCut 0 lines these → IsCutUpTo 0 line rest those
    → IsCutUpTo 0 (lines ++ line) rest (these ++ map (moved (length lines)) those)
cut_behind lines line rest these those are c d =
    IsCutUpTo-then 0 (length lines) (lines ++ line) line rest these (map (moved (length lines)) those) (lines_first lines line these are c)
    (moved_cut (length lines) line rest those d) (omega (arith, length-append lines line))

-- the line that has begun is cut, or has a bad byte
pub line_cut : (tokens more : List Lexeme) (line : List ℕ) (place : ℕ) (bytes : List ℕ) → IsLineBegun tokens line place bytes → IsCut 0 line more
    → IsCut 0 bytes (tokens ++ map (moved place) more)
line_cut tokens more line place bytes b c =
    rw (b.whole, b.there) (cut_behind b.lines line [] tokens more b.are b.cut c)

pub line_bad : (tokens : List Lexeme) (line : List ℕ) (place at : ℕ) (bytes : List ℕ) → IsLineBegun tokens line place bytes → IsBadByte line at
    → IsBadByte bytes (place + at)
line_bad tokens line place at bytes b bad =
    let behind : drop at line ≡ drop (length b.lines + at) (b.lines ++ line) = sym (drop-append-add b.lines line at) in
    rw (b.whole, b.there) (
      tokens ++ map (moved (length b.lines)) bad.0,
      subst (λ r. IsCutUpTo 0 (b.lines ++ line) r (tokens ++ map (moved (length b.lines)) bad.0)) behind (cut_behind b.lines line (drop at line) tokens bad.0 b.are b.cut bad.1),
      subst HasNoPiece behind bad.2,
    )

-- ---- places of tokens
abbrev pub AreWithin : ℕ → List Lexeme → Type 0
AreWithin n [] = Unit {0}
AreWithin n (token ∷ tokens) = (token.place ≤ n) × AreWithin n tokens

within_here : (n place : ℕ) (piece : List ℕ) (o : Option TokenKind) (more : List Lexeme) → place ≤ n → AreWithin n more
    → AreWithin n (option_to_list (option_map (λ kind. record { kind = kind; text = piece; place = place }) o) ++ more)
within_here n place piece None more le all = all
within_here n place piece (Some kind) more le all = (le, all)

within_pieces : (n place : ℕ) (ps : List (List ℕ)) → place + length (concat ps) ≤ n → AreWithin n (tokens_in place ps)
within_pieces n place [] le = tt
within_pieces n place (p ∷ ps) le =
    within_here n place p (token_kind p) (tokens_in (place + length p) ps) (omega (arith, le))
    (within_pieces n (place + length p) ps (omega (arith, le, length-append p (concat ps))))

within_behind : (n : ℕ) (before more : List Lexeme) → AreWithin n (before ++ more) → AreWithin n more
within_behind n [] more all = all
within_behind n (token ∷ before) more all = within_behind n before more all.1

abbrev Fits : ℕ → Token → Type 0
Fits from token = from + token.place < 2 ^ 64

within_tokens : (n from : ℕ) (tokens : List Token) → from + n < 2 ^ 64 → AreWithin n (lexemes tokens) → All (Fits from) tokens
within_tokens n from [] fits all = All-nil (Fits from)
within_tokens n from (token ∷ tokens) fits all = All-cons (Fits from) token tokens (omega (arith, fits, all.0)) (within_tokens n from tokens fits all.1)

-- tokens of a text that fits have places that fit
pub places_fit : (text rest : List ℕ) (before : List Lexeme) (tokens : List Token) (from : ℕ) → from + length text < 2 ^ 64
    → IsCutUpTo 0 text rest (before ++ lexemes tokens) → All (λ token. from + token.place < 2 ^ 64) tokens
places_fit text rest before tokens from fits c =
    within_tokens (length text) from tokens fits
    (within_behind (length text) before (lexemes tokens)
    (subst (AreWithin (length text)) (sym c.tokens_are) (within_pieces (length text) 0 c.pieces (omega (arith, ap length c.whole, length-append (concat c.pieces) rest)))))
