-- What `first_piece` finds is the first piece, or the first pieces where it finds digits.
use Rattle.std.proofs.Common.{◌≡◌, ℕ, suc, ◌+◌, ◌<◌, ◌≤◌, Bool, true, false, cond, ◌&&◌, ◌||◌, not, eqb, List, [], ◌∷◌, ◌++◌, length, take, drop, refl, sym, ap, ◌∙◌, subst, arith, inl, inr, ◌⊎◌, Option, None, Some, append_assoc, length-append}
use Rattle.std.specs.Option.{is_some, is_none}
use Rattle.std.specs.List.{list_all, prefix_len, concat}
use Rattle.std.proofs.lemmas.Bool.{false≢true, and_parts, and_from, cases_Bool, eqb-true, eqb-false, or_left, not_from_false, both_ways}
use Rattle.std.proofs.lemmas.List.{append-nil, take-append-drop, length-take-le, take_at, drop_at}
use Rattle.qasm_lexer.specs.declared.first_piece.Sort.{Sort}
use Rattle.qasm_lexer.specs.declared.first_piece.Sort.TheVariants.{Blank, Digits, Token}
use Rattle.qasm_lexer.specs.declared.token.TokenKind.{TokenKind}
use Rattle.qasm_lexer.specs.declared.token.TokenKind.TheVariants.{Real, Natural, Text}
use Rattle.std.specs.Char.{is_ascii_digit, is_ascii_alphabetic}
use Rattle.qasm_lexer.specs.Forms.{following, begins, is_space, is_no_feed, is_word_byte, is_comment, is_natural, is_closed}
use Rattle.qasm_lexer.specs.Tokens.{signs, kind_in, token_kind, word_kind, is_blank, IsPiece, ArePieces, tokens_in, IsCutUpTo}
use Rattle.qasm_lexer.specs.Internal.FirstPiece.{first_piece, word_piece, as_token, number_piece, number, point_piece, text_piece, closing, is_plain, plain_piece, sign_piece, two_or_one, is_inside, fraction_len, naturals, natural_tokens, piece_tokens}
use Rattle.qasm_lexer.proofs.Runs.{prefix, prefix-following, prefix_len-prefix, take-prefix, drop-following, prefix_passes, after_stops, after_through, begins_some, begins_append}
use Rattle.qasm_lexer.proofs.Reals.{real_fits, fraction_fits}
use Rattle.qasm_lexer.proofs.Leads.{letter, other, lead, lead-letter, no_blank, kind-word, Seen, seen, word_form, IsLongest, piece_form, point, quote, only}
use Rattle.qasm_lexer.proofs.Cuts.{same_longest, IsEnd, form_some}
use Rattle.qasm_lexer.proofs.Pieces as pieces
use Rattle.qasm_lexer.proofs.Pieces.{ends_number}

-- a sort and a length of what stands first, cut into pieces
pub record IsFirst (text : List ℕ) (sort : Sort) (count : ℕ) : Type 0 where
  pub piece : List ℕ
  pub after : List ℕ
  pub whole : piece ++ after ≡ text
  pub count_is : length piece ≡ count
  pub some : 0 < count
  pub pieces : List (List ℕ)
  pub pieces_are : concat pieces ≡ piece
  pub each : ArePieces pieces after
  pub tokens_are : (place : ℕ) → tokens_in place pieces ≡ piece_tokens sort place piece

abbrev pub IsFirstPiece : List ℕ → Option (Sort × ℕ) → Type 0
IsFirstPiece text None = IsEnd text
IsFirstPiece text (Some p) = IsFirst text p.0 p.1

module _ (b : ℕ) (p after text : List ℕ) (count : ℕ) (whole : (b ∷ p) ++ after ≡ text) (count_is : suc (length p) ≡ count) where
  one_piece : (sort : Sort) → IsPiece (b ∷ p) after → ((place : ℕ) → tokens_in place ((b ∷ p) ∷ []) ≡ piece_tokens sort place (b ∷ p)) → IsFirst text sort count
  one_piece sort is tokens = record {
    piece = b ∷ p;
    after = after;
    whole = whole;
    count_is = count_is;
    some = omega arith;
    pieces = (b ∷ p) ∷ [];
    pieces_are = append-nil (b ∷ p);
    each = (is, tt);
    tokens_are = tokens;
  }

  one_blank : IsPiece (b ∷ p) after → token_kind (b ∷ p) ≡ None → IsFirst text Blank count
  one_blank is kind = one_piece Blank is (λ place. rw kind refl)

  one_token : (k : TokenKind) → IsPiece (b ∷ p) after × (token_kind (b ∷ p) ≡ Some k) → IsFirst text (Token k) count
  one_token k is = one_piece (Token k) is.0 (λ place. rw is.1 refl)

white_first : (b : ℕ) (t : List ℕ) → is_space b ≡ true → IsFirst (b ∷ t) Blank 1
white_first b t e = one_blank b [] t (b ∷ t) 1 refl refl (pieces.white_piece b t e) (pieces.white_kind b e)

word_by_kind : (b : ℕ) (t : List ℕ) (n : ℕ) → is_ascii_alphabetic b ≡ true → n ≡ suc (length (prefix is_word_byte t)) → (k : Option TokenKind)
    → word_kind (b ∷ prefix is_word_byte t) ≡ k → IsFirstPiece (b ∷ t) (as_token k n)
word_by_kind b t n e n_is (Some k) is =
    one_token b (prefix is_word_byte t) (following is_word_byte t) (b ∷ t) n (ap (λ r. b ∷ r) (prefix-following is_word_byte t)) (sym n_is) k
    (pieces.word_piece b (prefix is_word_byte t) (following is_word_byte t) k e (prefix_passes is_word_byte t) (after_stops is_word_byte t) is)
word_by_kind b t n e n_is None is =
    let p : List ℕ = prefix is_word_byte t in
    let l : lead b ≡ letter = lead-letter b e in
    let longest : IsLongest (b ∷ p) (following is_word_byte t) =
    pieces.word_longest b p (following is_word_byte t) e (prefix_passes is_word_byte t) (after_stops is_word_byte t) in
    let kind : token_kind (b ∷ p) ≡ None = kind-word (b ∷ p) (and_from (is_ascii_alphabetic b) (list_all is_word_byte p) e (prefix_passes is_word_byte t)) ∙ is in
    let blank : is_blank (b ∷ p) ≡ false = no_blank b p (λ m. cc) (λ m. cc) in
    λ form after f piece.
    let same : form ≡ b ∷ p =
    (same_longest form (b ∷ p) after (following is_word_byte t) (f ∙ ap (λ r. b ∷ r) (sym (prefix-following is_word_byte t)))
    (piece_form form after piece)
    (word_form (b ∷ p) (and_from (is_ascii_alphabetic b) (list_all is_word_byte p) e (prefix_passes is_word_byte t))) piece.longest longest).0 in
    let taken : (is_blank (b ∷ p) || is_some (token_kind (b ∷ p))) ≡ true = subst (λ r. (is_blank r || is_some (token_kind r)) ≡ true) same piece.taken in
    false≢true (rw (blank, kind) at taken)

word_first : (b : ℕ) (t : List ℕ) → is_ascii_alphabetic b ≡ true → IsFirstPiece (b ∷ t) (word_piece (b ∷ t))
word_first b t e =
    let w : is_word_byte b ≡ true = or_left (is_ascii_alphabetic b || is_ascii_digit b) (eqb b 95) (or_left (is_ascii_alphabetic b) (is_ascii_digit b) e) in
    let run : prefix is_word_byte (b ∷ t) ≡ b ∷ prefix is_word_byte t = rw w refl in
    let n : ℕ = prefix_len is_word_byte (b ∷ t) in
    let n_is : n ≡ suc (length (prefix is_word_byte t)) = prefix_len-prefix is_word_byte (b ∷ t) ∙ ap length run in
    word_by_kind b t n e n_is (word_kind (take n (b ∷ t))) (ap word_kind (sym (take-prefix is_word_byte (b ∷ t) ∙ run)))

-- nothing begins where no form can
end_by : (b : ℕ) (t : List ℕ) → ((o rest : List ℕ) → o ++ rest ≡ t → Seen b o → ⊥) → IsEnd (b ∷ t)
end_by b t none [] after e piece = omega (arith, form_some [] (piece_form [] after piece))
end_by b t none (c ∷ o) after e piece =
    let k : c ≡ b = cc in
    let i : o ++ after ≡ t = cc in
    none o after i (subst (λ x. Seen x o) k (seen c o (piece_form (c ∷ o) after piece)))

concat-naturals : (ds : List ℕ) → concat (naturals ds) ≡ ds
concat-naturals [] = refl
concat-naturals (d ∷ ds) = elim (cases_Bool (eqb d 48)) [
  | inl z ↦ rw z (ap (λ r. d ∷ r) (concat-naturals ds))
  | inr z ↦ rw z (append-nil (d ∷ ds))
]

record AreNaturals (ps : List (List ℕ)) (after : List ℕ) : Type 0 where
  pub each : ArePieces ps after
  pub tokens : (place : ℕ) → tokens_in place ps ≡ natural_tokens place ps

natural_before : (p : List ℕ) (ps : List (List ℕ)) (after : List ℕ) → IsPiece p (concat ps ++ after) × (token_kind p ≡ Some Natural) → AreNaturals ps after
    → AreNaturals (p ∷ ps) after
natural_before p ps after is more = record {
  each = (is.0, more.each);
  tokens = λ place. rw is.1 (ap (λ r. record { kind = Natural; text = p; place = place } ∷ r) (more.tokens (place + length p)));
}

naturals_are : (ds after : List ℕ) → list_all is_ascii_digit ds ≡ true → ends_number after ≡ true → AreNaturals (naturals ds) after
naturals_are [] after all ends = record { each = tt; tokens = λ place. refl }
naturals_are (d ∷ ds) after all ends = elim (cases_Bool (eqb d 48)) [
  | inl z ↦
      (let tail : list_all is_ascii_digit ds ≡ true = (and_parts (is_ascii_digit d) (list_all is_ascii_digit ds) all).1 in
      rw z (natural_before (d ∷ []) (naturals ds) after
      (subst (λ x. IsPiece (x ∷ []) (concat (naturals ds) ++ after) × (token_kind (x ∷ []) ≡ Some Natural)) (sym (eqb-true d 48 z))
      (subst (λ x. IsPiece (48 ∷ []) (x ++ after) × (token_kind (48 ∷ []) ≡ Some Natural)) (sym (concat-naturals ds)) (pieces.zero_piece ds after tail ends)))
      (naturals_are ds after tail ends)))
  | inr z ↦
      rw z (natural_before (d ∷ ds) [] after
      (pieces.natural_piece d ds after all (is_natural_here d ds z all) ends) (record { each = tt; tokens = λ place. refl }))
] where
  is_natural_here : (d : ℕ) (ds : List ℕ) → eqb d 48 ≡ false → list_all is_ascii_digit (d ∷ ds) ≡ true → is_natural (d ∷ ds) ≡ true
  is_natural_here d ds z all = rw z all

digits_first : (b : ℕ) (u x : List ℕ) → is_ascii_digit b ≡ true → following is_ascii_digit (b ∷ u) ≡ x → ends_number x ≡ true
    → IsFirst (b ∷ u) Digits (prefix_len is_ascii_digit (b ∷ u))
digits_first b u x d is ends =
    let ds : List ℕ = prefix is_ascii_digit (b ∷ u) in
    let all : AreNaturals (naturals ds) x = naturals_are ds x (prefix_passes is_ascii_digit (b ∷ u)) ends in
    record {
      piece = ds;
      after = x;
      whole = ap (λ r. ds ++ r) (sym is) ∙ prefix-following is_ascii_digit (b ∷ u);
      count_is = sym (prefix_len-prefix is_ascii_digit (b ∷ u));
      some = begins_some is_ascii_digit (b ∷ u) d;
      pieces = naturals ds;
      pieces_are = concat-naturals ds;
      each = all.each;
      tokens_are = all.tokens;
    }

number_by_rest : (b : ℕ) (u x : List ℕ) → is_ascii_digit b ≡ true → following is_ascii_digit (b ∷ u) ≡ x
    → IsFirst (b ∷ u) (number (prefix_len is_ascii_digit (b ∷ u)) x).0 (number (prefix_len is_ascii_digit (b ∷ u)) x).1
number_by_rest b u [] d is = digits_first b u [] d is refl
number_by_rest b u (c ∷ r) d is = elim (cases_Bool (eqb c 46)) [
  | inl e ↦ rw e (real_here (is ∙ ap (λ x. x ∷ r) (eqb-true c 46 e)))
  | inr e ↦ rw e (digits_first b u (c ∷ r) d is (and_from (not (is_ascii_digit c)) (not (eqb c 46)) (not_from_false (is_ascii_digit c) no_digit) (not_from_false (eqb c 46) e)))
] where
  no_digit : is_ascii_digit c ≡ false
  no_digit = ap (begins is_ascii_digit) (sym is) ∙ after_stops is_ascii_digit (b ∷ u)

  real_here : following is_ascii_digit (b ∷ u) ≡ 46 ∷ r → IsFirst (b ∷ u) (Token Real) (prefix_len is_ascii_digit (b ∷ u) + 1 + fraction_len r)
  real_here h =
      let m : ℕ = prefix_len is_ascii_digit (b ∷ u) + fraction_len r in
      let fits : m ≤ length u = omega (arith, real_fits (b ∷ u) r h) in
      one_token b (take m u) (drop m u) (b ∷ u) (prefix_len is_ascii_digit (b ∷ u) + 1 + fraction_len r)
      (ap (λ x. b ∷ x) (take-append-drop m u)) (omega (arith, length-take-le m u fits)) Real (pieces.real_piece b u r m d h refl)

number_first : (b : ℕ) (u : List ℕ) → is_ascii_digit b ≡ true → IsFirst (b ∷ u) (number_piece (b ∷ u)).0 (number_piece (b ∷ u)).1
number_first b u d =
    subst (λ x. IsFirst (b ∷ u) (number (prefix_len is_ascii_digit (b ∷ u)) x).0 (number (prefix_len is_ascii_digit (b ∷ u)) x).1) (sym (drop-following is_ascii_digit (b ∷ u)))
    (number_by_rest b u (following is_ascii_digit (b ∷ u)) d refl)

point_first : (r : List ℕ) → IsFirstPiece (46 ∷ r) (point_piece r)
point_first r = elim (cases_Bool (begins is_ascii_digit r)) [
  | inl e ↦
      rw e (one_token 46 (take (fraction_len r) r) (drop (fraction_len r) r) (46 ∷ r) (1 + fraction_len r)
      (ap (λ x. 46 ∷ x) (take-append-drop (fraction_len r) r)) (omega (arith, length-take-le (fraction_len r) r (fraction_fits r))) Real (pieces.point_piece r e))
  | inr e ↦
      rw e (end_by 46 r (λ o rest t s.
      both_ways (begins is_ascii_digit r) e (ap (begins is_ascii_digit) (sym t) ∙ begins_append is_ascii_digit o rest (only 46 o point refl s).0)))
]

-- what follows the bytes inside a text that is closed
closed_after : (r o rest : List ℕ) → o ++ rest ≡ r → is_closed o ≡ true → following is_inside r ≡ 34 ∷ rest
closed_after r o rest t c =
    let h : (q : List ℕ) × (o ≡ q ++ 34 ∷ []) × (list_all is_inside q ≡ true) = pieces.closed_parts o c in
    ap (following is_inside) (sym t ∙ ap (λ x. x ++ rest) h.1 ∙ append_assoc h.0 (34 ∷ []) rest) ∙ after_through is_inside h.0 (34 ∷ rest) h.2

text_by_rest : (r x : List ℕ) → following is_inside r ≡ x → IsFirstPiece (34 ∷ r) (closing (prefix_len is_inside r) x)
text_by_rest r [] is = end_by 34 r (λ o rest t s. let e : [] ≡ 34 ∷ rest = sym is ∙ closed_after r o rest t (only 34 o quote refl s) in cc)
text_by_rest r (c ∷ after) is = elim (cases_Bool (eqb c 34)) [
  | inl e ↦ rw e (closed_here (is ∙ ap (λ x. x ∷ after) (eqb-true c 34 e)))
  | inr e ↦ rw e (end_by 34 r (λ o rest t s. open_here e o rest (closed_after r o rest t (only 34 o quote refl s))))
] where
  open_here : eqb c 34 ≡ false → (o rest : List ℕ) → following is_inside r ≡ 34 ∷ rest → ⊥
  open_here e o rest h =
      let k : c ∷ after ≡ 34 ∷ rest = sym is ∙ h in
      let i : c ≡ 34 = cc in
      eqb-false c 34 e i

  closed_here : following is_inside r ≡ 34 ∷ after → IsFirst (34 ∷ r) (Token Text) (prefix_len is_inside r + 2)
  closed_here h =
      let q : List ℕ = prefix is_inside r in
      one_token 34 (q ++ 34 ∷ []) after (34 ∷ r) (prefix_len is_inside r + 2)
      (ap (λ x. 34 ∷ x) (append_assoc q (34 ∷ []) after ∙ ap (λ x. q ++ x) (sym h) ∙ prefix-following is_inside r))
      (omega (arith, length-append q (34 ∷ []), prefix_len-prefix is_inside r)) Text (pieces.text_piece q after (prefix_passes is_inside r))

text_first : (r : List ℕ) → IsFirstPiece (34 ∷ r) (text_piece r)
text_first r =
    subst (λ x. IsFirstPiece (34 ∷ r) (closing (prefix_len is_inside r) x)) (sym (drop-following is_inside r)) (text_by_rest r (following is_inside r) refl)

sign_end : (b : ℕ) (t : List ℕ) → lead b ≡ other → kind_in signs (b ∷ []) ≡ None → pieces.ends_sign b t ≡ true → IsEnd (b ∷ t)
sign_end b t l none ends = end_by b t (λ o rest e s. nothing o (pieces.longer_sign b o rest t e ends (only b o other l s)) (only b o other l s)) where
  nothing : (o : List ℕ) → o ≡ [] → (is_comment (b ∷ o) ≡ true) ⊎ ((length o ≤ 1) × (is_some (kind_in signs (b ∷ o)) ≡ true)) → ⊥
  nothing [] z (inl c) = false≢true c
  nothing [] z (inr s) = false≢true (ap is_some (sym none) ∙ s.1)
  nothing (d ∷ o) z f = cc

short_first : (b : ℕ) (t : List ℕ) → lead b ≡ other → pieces.ends_sign b t ≡ true → (k : Option TokenKind) → kind_in signs (b ∷ []) ≡ k
    → IsFirstPiece (b ∷ t) (as_token k 1)
short_first b t l ends None is = sign_end b t l is ends
short_first b t l ends (Some k) is = one_token b [] t (b ∷ t) 1 refl refl k (pieces.short_sign_piece b t k is ends)

long_first : (b c : ℕ) (t : List ℕ) → lead b ≡ other → (eqb b 47 && eqb c 47) ≡ false → (k : Option TokenKind) → kind_in signs (b ∷ c ∷ []) ≡ k
    → IsFirstPiece (b ∷ c ∷ t) (two_or_one k (kind_in signs (b ∷ [])))
long_first b c t l apart (Some k) is = one_token b (c ∷ []) t (b ∷ c ∷ t) 2 refl refl k (pieces.long_sign_piece b c t k is apart)
long_first b c t l apart None is =
    short_first b (c ∷ t) l
    (and_from (not (eqb b 47 && eqb c 47)) (is_none (kind_in signs (b ∷ c ∷ []))) (not_from_false (eqb b 47 && eqb c 47) apart) (ap is_none is))
    (kind_in signs (b ∷ [])) refl

comment_first : (t : List ℕ) → IsFirst (47 ∷ 47 ∷ t) Blank (prefix_len is_no_feed (47 ∷ 47 ∷ t))
comment_first t =
    one_blank 47 (47 ∷ prefix is_no_feed t) (following is_no_feed t) (47 ∷ 47 ∷ t) (prefix_len is_no_feed (47 ∷ 47 ∷ t))
    (ap (λ r. 47 ∷ 47 ∷ r) (prefix-following is_no_feed t)) (omega (arith, prefix_len-prefix is_no_feed t))
    (pieces.comment_piece (prefix is_no_feed t) (following is_no_feed t) (prefix_passes is_no_feed t) (after_stops is_no_feed t)) refl

sign_first : (b : ℕ) (t : List ℕ) → lead b ≡ other → IsFirstPiece (b ∷ t) (sign_piece (b ∷ t))
sign_first b [] l = short_first b [] l refl (kind_in signs (b ∷ [])) refl
sign_first b (c ∷ t) l = elim (cases_Bool (eqb b 47 && eqb c 47)) [
  | inl e ↦
      (let p : (eqb b 47 ≡ true) × (eqb c 47 ≡ true) = and_parts (eqb b 47) (eqb c 47) e in
      let at_b : b ≡ 47 = eqb-true b 47 p.0 in
      let at_c : c ≡ 47 = eqb-true c 47 p.1 in
      rw e (rw (at_b, at_c) (comment_first t)))
  | inr e ↦ rw e (long_first b c t l e (kind_in signs (b ∷ c ∷ [])) refl)
]

plain_first : (b : ℕ) (t : List ℕ) → lead b ≡ other → is_plain b ≡ true → IsFirstPiece (b ∷ t) (plain_piece b)
plain_first b t l e = short_first b t l (pieces.ends_sign-plain b t e) (kind_in signs (b ∷ [])) refl

-- a choice by five tests
by_five : {X : Type 0} (P : X → Type 0) (s l d p q : Bool) (x1 x2 x3 x4 x5 x6 : X) → (s ≡ true → P x1) → (l ≡ true → P x2) → (d ≡ true → P x3)
    → (p ≡ true → P x4) → (q ≡ true → P x5) → (s ≡ false → l ≡ false → d ≡ false → p ≡ false → q ≡ false → P x6)
    → P (cond s x1 (cond l x2 (cond d x3 (cond p x4 (cond q x5 x6)))))
by_five P true l d p q x1 x2 x3 x4 x5 x6 h1 h2 h3 h4 h5 h6 = h1 refl
by_five P false true d p q x1 x2 x3 x4 x5 x6 h1 h2 h3 h4 h5 h6 = h2 refl
by_five P false false true p q x1 x2 x3 x4 x5 x6 h1 h2 h3 h4 h5 h6 = h3 refl
by_five P false false false true q x1 x2 x3 x4 x5 x6 h1 h2 h3 h4 h5 h6 = h4 refl
by_five P false false false false true x1 x2 x3 x4 x5 x6 h1 h2 h3 h4 h5 h6 = h5 refl
by_five P false false false false false x1 x2 x3 x4 x5 x6 h1 h2 h3 h4 h5 h6 = h6 refl refl refl refl refl

-- what no other sort begins
other_first : (b : ℕ) (t : List ℕ) → lead b ≡ other → IsFirstPiece (b ∷ t) (cond (is_plain b) (plain_piece b) (sign_piece (b ∷ t)))
other_first b t l = elim (cases_Bool (is_plain b)) [
  | inl e ↦ rw e (plain_first b t l e)
  | inr e ↦ rw e (sign_first b t l)
]

pub first_piece_is : (text : List ℕ) → 0 < length text → IsFirstPiece text (first_piece text)
first_piece_is [] some = absurd (omega arith)
first_piece_is (b ∷ t) some =
    by_five (IsFirstPiece (b ∷ t)) (is_space b) (is_ascii_alphabetic b) (is_ascii_digit b) (eqb b 46) (eqb b 34)
    (Some (Blank, 1)) (word_piece (b ∷ t)) (Some (number_piece (b ∷ t))) (point_piece t) (text_piece t)
    (cond (is_plain b) (plain_piece b) (sign_piece (b ∷ t)))
    (white_first b t) (word_first b t) (number_first b t)
    (λ e. subst (λ x. IsFirstPiece (x ∷ t) (point_piece t)) (sym (eqb-true b 46 e)) (point_first t))
    (λ e. subst (λ x. IsFirstPiece (x ∷ t) (text_piece t)) (sym (eqb-true b 34 e)) (text_first t))
    (λ s l d p q. other_first b t (rw (s, l, d, p, q) refl))

-- a first piece is a cut up to what follows it
pub first_cut : (at : ℕ) (rest : List ℕ) (sort : Sort) (count : ℕ) → IsFirst rest sort count
    → IsCutUpTo at rest (drop count rest) (piece_tokens sort at (take count rest))
first_cut at rest sort count f =
    let prefix_is : take count rest ≡ f.piece = ap (take count) (sym f.whole) ∙ take_at f.piece f.after count f.count_is in
    let after_is : drop count rest ≡ f.after = ap (drop count) (sym f.whole) ∙ drop_at f.piece f.after count f.count_is in
    let c : IsCutUpTo at rest f.after (piece_tokens sort at f.piece) = record {
      pieces = f.pieces;
      whole = sym f.whole ∙ ap (λ r. r ++ f.after) (sym f.pieces_are);
      each = f.each;
      tokens_are = sym (f.tokens_are at);
    } in
    subst (λ r. IsCutUpTo at rest r (piece_tokens sort at (take count rest))) (sym after_is)
    (subst (λ r. IsCutUpTo at rest f.after (piece_tokens sort at r)) (sym prefix_is) c)

pub first_fits : (rest : List ℕ) (sort : Sort) (count : ℕ) → IsFirst rest sort count → (0 < count) × (count ≤ length rest)
first_fits rest sort count f = (f.some, omega (arith, f.count_is, ap length f.whole, length-append f.piece f.after))
