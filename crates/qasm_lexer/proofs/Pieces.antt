-- Pieces of each sort, whatever follows them as it must.
use Rattle.std.proofs.Common.{◌≡◌, ℕ, suc, ◌+◌, ◌≤◌, Bool, true, false, ◌&&◌, ◌||◌, not, eqb, List, [], ◌∷◌, ◌++◌, length, take, drop, refl, sym, ap, ◌∙◌, subst, arith, inl, inr, ◌⊎◌, Option, None, Some, append_assoc, length-append}
use Rattle.std.specs.Option.{is_some, is_none}
use Rattle.std.specs.List.{list_all, prefix_len}
use Rattle.std.proofs.lemmas.Bool.{false≢true, or_parts, and_parts, and_from, or_left, or_right, cases_Bool, eqb-true, not-true, both_ways}
use Rattle.std.proofs.lemmas.List.{nil_from_length, take-append-drop, length-take-le}
use Rattle.qasm_lexer.specs.declared.token.TokenKind.{TokenKind}
use Rattle.qasm_lexer.specs.declared.token.TokenKind.TheVariants.{Real, Natural, Text}
use Rattle.std.specs.Char.{is_ascii_digit, is_ascii_alphabetic}
use Rattle.qasm_lexer.specs.Forms.{following, begins, is_space, is_no_feed, is_word_byte, is_white, is_comment, is_natural, is_real, is_fraction, is_exponent, is_text, is_closed, is_empty}
use Rattle.qasm_lexer.specs.Tokens.{signs, kind_in, token_kind, word_kind, is_blank, is_form, IsPiece}
use Rattle.qasm_lexer.specs.Internal.FirstPiece.{is_inside, fraction_len, is_plain}
use Rattle.qasm_lexer.proofs.Runs.{run_longest, prefix_len_through, after_through, after_stopped, after_all}
use Rattle.qasm_lexer.proofs.Reals.{real_longest, real_is, real_fits, begins_fraction, fraction_longest, fraction_is, fraction_fits}
use Rattle.qasm_lexer.proofs.Leads.{table_all, white, digit, other, lead, lead-space, lead-letter, lead-digit, Seen, seen, no_word, no_real, no_natural, no_text, no_sign, sign_lead, kind-word, kind-real, kind-natural, kind-text, kind-sign, IsLongest, letter, point, quote, none_since, only}

-- the longest, from what its first byte begins
longest_by : (b : ℕ) (p after : List ℕ)
    → ((o rest : List ℕ) → o ++ rest ≡ p ++ after → Seen b o → length o ≤ length p) → IsLongest (b ∷ p) after
longest_by b p after most = each where
  each : (form rest : List ℕ) → form ++ rest ≡ (b ∷ p) ++ after → is_form form ≡ true → length form ≤ length (b ∷ p)
  each [] rest e f = omega arith
  each (c ∷ o) rest e f =
      let k : c ≡ b = cc in
      let t : o ++ rest ≡ p ++ after = cc in
      omega (arith, most o rest t (subst (λ x. Seen x o) k (seen c o f)))

-- a run that passes is no longer than another that can't go on
run_stopped : (test : ℕ → Bool) (o rest p after : List ℕ) → o ++ rest ≡ p ++ after → list_all test o ≡ true → list_all test p ≡ true
    → begins test after ≡ false → length o ≤ length p
run_stopped test o rest p after e f g stop =
    omega (arith, run_longest test o rest f, ap (prefix_len test) e, prefix_len_through test p after g, stopped after stop) where
      stopped : (t : List ℕ) → begins test t ≡ false → prefix_len test t ≡ 0
      stopped [] e = refl
      stopped (b ∷ rest) e = rw e refl

taken_by_kind : (form : List ℕ) (kind : TokenKind) → token_kind form ≡ Some kind → (is_blank form || is_some (token_kind form)) ≡ true
taken_by_kind form kind e = or_right (is_blank form) (is_some (token_kind form)) (ap is_some e)

-- a byte of white space
pub white_piece : (b : ℕ) (after : List ℕ) → is_space b ≡ true → IsPiece (b ∷ []) after
white_piece b after e =
    let w : is_blank (b ∷ []) ≡ true = or_left (is_white (b ∷ [])) (is_comment (b ∷ [])) (and_from (is_space b) true e refl) in
    record {
      longest = longest_by b [] after (λ o rest t s. omega (arith, ap length (only b o white (lead-space b e) s)));
      taken = or_left (is_blank (b ∷ [])) (is_some (token_kind (b ∷ []))) w;
    }

pub white_kind : (b : ℕ) → is_space b ≡ true → token_kind (b ∷ []) ≡ None
white_kind b e =
    let l : lead b ≡ white = lead-space b e in
    kind-sign (b ∷ []) (no_word b [] (λ m. cc)) (no_real b [] (λ m. cc) (λ m. cc)) (no_natural b [] (λ m. cc)) (no_text b [] (λ m. cc))
    ∙ no_sign b [] (λ m. cc)

-- a comment, up to a line feed or the end
pub comment_piece : (p after : List ℕ) → list_all is_no_feed p ≡ true → begins is_no_feed after ≡ false → IsPiece (47 ∷ 47 ∷ p) after
comment_piece p after e stop =
    let c : is_comment (47 ∷ 47 ∷ p) ≡ true = e in
    let w : is_blank (47 ∷ 47 ∷ p) ≡ true = or_right (is_white (47 ∷ 47 ∷ p)) (is_comment (47 ∷ 47 ∷ p)) c in
    record {
      longest = longest_by 47 (47 ∷ p) after (λ o rest t s. elim (only 47 o other refl s) [
        | inl f ↦ run_stopped is_no_feed o rest (47 ∷ p) after t (no_feed o f) e stop
        | inr f ↦ omega (arith, f.0)
      ]);
      taken = or_left (is_blank (47 ∷ 47 ∷ p)) (is_some (token_kind (47 ∷ 47 ∷ p))) w;
    } where
      no_feed : (o : List ℕ) → is_comment (47 ∷ o) ≡ true → list_all is_no_feed o ≡ true
      no_feed [] f = absurd (false≢true f)
      no_feed (d ∷ o) f =
          let q : (eqb d 47 ≡ true) × (list_all is_no_feed o ≡ true) = and_parts (eqb d 47) (list_all is_no_feed o) f in
          rw (eqb-true d 47 q.0) q.1

-- a word, before a byte that no word has, or the end
pub word_longest : (b : ℕ) (p after : List ℕ) → is_ascii_alphabetic b ≡ true → list_all is_word_byte p ≡ true → begins is_word_byte after ≡ false
    → IsLongest (b ∷ p) after
word_longest b p after e all stop =
    longest_by b p after (λ o rest t s.
    run_stopped is_word_byte o rest p after t (and_parts (is_word_byte b) (list_all is_word_byte o) (only b o letter (lead-letter b e) s)).1 all stop)

pub word_piece : (b : ℕ) (p after : List ℕ) (kind : TokenKind) → is_ascii_alphabetic b ≡ true → list_all is_word_byte p ≡ true → begins is_word_byte after ≡ false
    → word_kind (b ∷ p) ≡ Some kind → IsPiece (b ∷ p) after × (token_kind (b ∷ p) ≡ Some kind)
word_piece b p after kind e all stop is =
    let k : token_kind (b ∷ p) ≡ Some kind = kind-word (b ∷ p) (and_from (is_ascii_alphabetic b) (list_all is_word_byte p) e all) ∙ is in
    (record { longest = word_longest b p after e all stop; taken = taken_by_kind (b ∷ p) kind k }, k)

-- what doesn't go on as a number: no digit and no point
abbrev pub ends_number : List ℕ → Bool
ends_number [] = true
ends_number (b ∷ rest) = not (is_ascii_digit b) && not (eqb b 46)

ends_digits : (after : List ℕ) → ends_number after ≡ true → begins is_ascii_digit after ≡ false
ends_digits [] e = refl
ends_digits (b ∷ rest) e = not-true (is_ascii_digit b) (and_parts (not (is_ascii_digit b)) (not (eqb b 46)) e).0

-- no real begins where no point follows the digits
no_real_here : (some : Bool) (form rest ds after : List ℕ) → form ++ rest ≡ ds ++ after → list_all is_ascii_digit ds ≡ true → ends_number after ≡ true
    → is_fraction some (following is_ascii_digit form) ≡ true → ⊥
no_real_here some form rest ds after e all ends real =
    let r : (r : List ℕ) × (following is_ascii_digit (form ++ rest) ≡ 46 ∷ r) × (length form ≤ _) = real_longest some form rest real in
    let is : after ≡ 46 ∷ r.0 =
    sym (after_stopped is_ascii_digit after (ends_digits after ends)) ∙ sym (after_through is_ascii_digit ds after all) ∙ ap (following is_ascii_digit) (sym e) ∙ r.1 in
    false≢true (let k : ends_number (46 ∷ r.0) ≡ true = subst (λ s. ends_number s ≡ true) is ends in k)

natural_kind : (b : ℕ) (p : List ℕ) → list_all is_ascii_digit (b ∷ p) ≡ true → is_natural (b ∷ p) ≡ true → token_kind (b ∷ p) ≡ Some Natural
natural_kind b p all e =
    let l : lead b ≡ digit = lead-digit b (and_parts (is_ascii_digit b) (list_all is_ascii_digit p) all).0 in
    let r : is_real (b ∷ p) ≡ false = ap (is_fraction (begins is_ascii_digit (b ∷ p))) (after_all is_ascii_digit (b ∷ p) all) in
    kind-natural (b ∷ p) (no_word b p (λ m. cc)) r e

-- a natural, before what doesn't go on as a number
pub natural_piece : (b : ℕ) (p after : List ℕ) → list_all is_ascii_digit (b ∷ p) ≡ true → is_natural (b ∷ p) ≡ true → ends_number after ≡ true
    → IsPiece (b ∷ p) after × (token_kind (b ∷ p) ≡ Some Natural)
natural_piece b p after all e ends =
    let d : (is_ascii_digit b ≡ true) × (list_all is_ascii_digit p ≡ true) = and_parts (is_ascii_digit b) (list_all is_ascii_digit p) all in
    let k : token_kind (b ∷ p) ≡ Some Natural = natural_kind b p all e in (
      record {
        longest = longest_by b p after (λ o rest t s. elim (only b o digit (lead-digit b d.0) s) [
          | inl r ↦ absurd (no_real_here (begins is_ascii_digit (b ∷ o)) (b ∷ o) rest (b ∷ p) after (ap (λ x. b ∷ x) t) all ends r)
          | inr n ↦ run_stopped is_ascii_digit o rest p after t (and_parts (is_ascii_digit b) (list_all is_ascii_digit o) n.0).1 d.1 (ends_digits after ends)
        ]);
        taken = taken_by_kind (b ∷ p) Natural k;
      },
      k,
    )

-- a zero, before digits that no point follows
pub zero_piece : (ds after : List ℕ) → list_all is_ascii_digit ds ≡ true → ends_number after ≡ true
    → IsPiece (48 ∷ []) (ds ++ after) × (token_kind (48 ∷ []) ≡ Some Natural)
zero_piece ds after all ends = (
  record {
    longest = longest_by 48 [] (ds ++ after) (λ o rest t s. elim (only 48 o digit refl s) [
      | inl r ↦ absurd (no_real_here true (48 ∷ o) rest (48 ∷ ds) after (ap (λ x. 48 ∷ x) t) all ends r)
      | inr n ↦ no_more o n.1
    ]);
    taken = refl;
  },
  refl,
) where
  no_more : (o : List ℕ) → is_natural (48 ∷ o) ≡ true → length o ≤ 0
  no_more [] e = omega arith
  no_more (c ∷ o) e = absurd (false≢true e)

inside : (c : ℕ) → eqb c 34 ≡ false → is_no_feed c ≡ true → is_inside c ≡ true
inside c e f = rw e f

-- bytes of a text up to its end
pub closed_parts : (o : List ℕ) → is_closed o ≡ true → (q : List ℕ) × (o ≡ q ++ 34 ∷ []) × (list_all is_inside q ≡ true)
closed_parts [] e = absurd (false≢true e)
closed_parts (c ∷ o) e = elim (cases_Bool (eqb c 34)) [
  | inl f ↦ ([], closed_end c o f (rw f at e), refl)
  | inr f ↦
      (let p : (is_no_feed c ≡ true) × (is_closed o ≡ true) = and_parts (is_no_feed c) (is_closed o) (rw f at e) in
      let h : (q : List ℕ) × (o ≡ q ++ 34 ∷ []) × (list_all is_inside q ≡ true) = closed_parts o p.1 in
      (c ∷ h.0, ap (λ x. c ∷ x) h.1, and_from (is_inside c) (list_all is_inside h.0) (inside c f p.0) h.2))
] where
  closed_end : (c : ℕ) (o : List ℕ) → eqb c 34 ≡ true → is_empty o ≡ true → c ∷ o ≡ 34 ∷ []
  closed_end c [] f g = ap (λ x. x ∷ []) (eqb-true c 34 f)
  closed_end c (d ∷ o) f g = absurd (false≢true g)

closed_run : (q : List ℕ) → list_all is_inside q ≡ true → is_closed (q ++ 34 ∷ []) ≡ true
closed_run [] e = refl
closed_run (c ∷ q) e =
    let p : ((not (eqb c 34) && is_no_feed c) ≡ true) × (list_all is_inside q ≡ true) = and_parts (is_inside c) (list_all is_inside q) e in
    let n : (not (eqb c 34) ≡ true) × (is_no_feed c ≡ true) = and_parts (not (eqb c 34)) (is_no_feed c) p.0 in
    rw (not-true (eqb c 34) n.0) (rw n.1 (closed_run q p.1))

-- a text, whatever follows
pub text_piece : (q after : List ℕ) → list_all is_inside q ≡ true
    → IsPiece (34 ∷ (q ++ 34 ∷ [])) after × (token_kind (34 ∷ (q ++ 34 ∷ [])) ≡ Some Text)
text_piece q after e =
    let f : is_text (34 ∷ (q ++ 34 ∷ [])) ≡ true = closed_run q e in
    let k : token_kind (34 ∷ (q ++ 34 ∷ [])) ≡ Some Text = kind-text (34 ∷ (q ++ 34 ∷ [])) refl refl refl f in (
      record {
        longest = longest_by 34 (q ++ 34 ∷ []) after (λ o rest t s. no_longer o rest t (only 34 o quote refl s));
        taken = taken_by_kind (34 ∷ (q ++ 34 ∷ [])) Text k;
      },
      k,
    ) where
      no_longer : (o rest : List ℕ) → o ++ rest ≡ (q ++ 34 ∷ []) ++ after → is_closed o ≡ true → length o ≤ length (q ++ 34 ∷ [])
      no_longer o rest t c =
          let h : (x : List ℕ) × (o ≡ x ++ 34 ∷ []) × (list_all is_inside x ≡ true) = closed_parts o c in
          let all : h.0 ++ 34 ∷ rest ≡ q ++ 34 ∷ after = sym (append_assoc h.0 (34 ∷ []) rest) ∙ ap (λ x. x ++ rest) (sym h.1) ∙ t ∙ append_assoc q (34 ∷ []) after in
          omega (arith, run_stopped is_inside h.0 (34 ∷ rest) q (34 ∷ after) all h.2 e refl, ap length h.1, length-append h.0 (34 ∷ []), length-append q (34 ∷ []))

-- what may follow a sign of one byte: nothing that makes it a longer sign or a comment
abbrev pub ends_sign : ℕ → List ℕ → Bool
ends_sign a [] = true
ends_sign a (b ∷ rest) = not (eqb a 47 && eqb b 47) && is_none (kind_in signs (a ∷ b ∷ []))

abbrev begins_long : List ℕ → Bool
begins_long [] = true
begins_long (a ∷ []) = true
begins_long (a ∷ b ∷ rest) = eqb a 45 || eqb a 61

pub ends_sign-plain : (a : ℕ) (after : List ℕ) → is_plain a ≡ true → ends_sign a after ≡ true
ends_sign-plain a [] e = refl
ends_sign-plain a (b ∷ rest) e =
    let p : ((eqb a 45 || eqb a 61) ≡ false) × (eqb a 47 ≡ false) = or_parts (eqb a 45 || eqb a 61) (eqb a 47) (not-true (eqb a 45 || eqb a 61 || eqb a 47) e) in
    and_from (not (eqb a 47 && eqb b 47)) (is_none (kind_in signs (a ∷ b ∷ []))) (rw p.1 refl)
    (ap is_none (none_since (kind_in signs (a ∷ b ∷ [])) (λ s. both_ways (eqb a 45 || eqb a 61) p.0 (table_all begins_long signs refl (a ∷ b ∷ []) s))))

sign_kind : (a : ℕ) (p : List ℕ) → lead a ≡ other → token_kind (a ∷ p) ≡ kind_in signs (a ∷ p)
sign_kind a p l = kind-sign (a ∷ p) (no_word a p (λ m. cc)) (no_real a p (λ m. cc) (λ m. cc)) (no_natural a p (λ m. cc)) (no_text a p (λ m. cc))

no_comment : (a b : ℕ) (o : List ℕ) → is_comment (a ∷ b ∷ o) ≡ true → (eqb a 47 && eqb b 47) ≡ true
no_comment a b o e = (and_parts (eqb a 47 && eqb b 47) (list_all is_no_feed o) e).0

-- a form that begins as a sign and is longer than its first byte
pub longer_sign : (a : ℕ) (o rest after : List ℕ) → o ++ rest ≡ after → ends_sign a after ≡ true
    → (is_comment (a ∷ o) ≡ true) ⊎ ((length o ≤ 1) × (is_some (kind_in signs (a ∷ o)) ≡ true)) → o ≡ []
longer_sign a [] rest after t e f = refl
longer_sign a (d ∷ o) rest [] t e f = absurd (cc)
longer_sign a (d ∷ o) rest (b ∷ after) t e f =
    let k : d ≡ b = cc in
    let p : (not (eqb a 47 && eqb b 47) ≡ true) × (is_none (kind_in signs (a ∷ b ∷ [])) ≡ true) =
    and_parts (not (eqb a 47 && eqb b 47)) (is_none (kind_in signs (a ∷ b ∷ []))) e in
    elim f [
      | inl c ↦ absurd (both_ways (eqb a 47 && eqb b 47) (not-true (eqb a 47 && eqb b 47) p.0) (subst (λ x. (eqb a 47 && eqb x 47) ≡ true) k (no_comment a d o c)))
      | inr s ↦ absurd (let z : o ≡ [] = nil_from_length o (omega (arith, s.0)) in
          none_or_some (kind_in signs (a ∷ b ∷ [])) p.1 (subst (λ x. is_some (kind_in signs (a ∷ x ∷ [])) ≡ true) k (subst (λ x. is_some (kind_in signs (a ∷ d ∷ x)) ≡ true) z s.1)))
    ] where
      none_or_some : (k : Option TokenKind) → is_none k ≡ true → is_some k ≡ true → ⊥
      none_or_some None n s = false≢true s
      none_or_some (Some x) n s = false≢true n

-- a sign of one byte
pub short_sign_piece : (a : ℕ) (after : List ℕ) (kind : TokenKind) → kind_in signs (a ∷ []) ≡ Some kind → ends_sign a after ≡ true
    → IsPiece (a ∷ []) after × (token_kind (a ∷ []) ≡ Some kind)
short_sign_piece a after kind e ends =
    let l : lead a ≡ other = (sign_lead a [] (ap is_some e)).0 in
    let k : token_kind (a ∷ []) ≡ Some kind = sign_kind a [] l ∙ e in (
      record {
        longest = longest_by a [] after
            (λ o rest t s. omega (arith, ap length (longer_sign a o rest after t ends (only a o other l s))));
        taken = taken_by_kind (a ∷ []) kind k;
      },
      k,
    )

-- a sign of two bytes
pub long_sign_piece : (a b : ℕ) (after : List ℕ) (kind : TokenKind) → kind_in signs (a ∷ b ∷ []) ≡ Some kind → (eqb a 47 && eqb b 47) ≡ false
    → IsPiece (a ∷ b ∷ []) after × (token_kind (a ∷ b ∷ []) ≡ Some kind)
long_sign_piece a b after kind e apart =
    let l : lead a ≡ other = (sign_lead a (b ∷ []) (ap is_some e)).0 in
    let k : token_kind (a ∷ b ∷ []) ≡ Some kind = sign_kind a (b ∷ []) l ∙ e in (
      record {
        longest = longest_by a (b ∷ []) after (λ o rest t s. elim (only a o other l s) [
          | inl c ↦ absurd (comment_here o rest t c)
          | inr s ↦ omega (arith, s.0)
        ]);
        taken = taken_by_kind (a ∷ b ∷ []) kind k;
      },
      k,
    ) where
      comment_here : (o rest : List ℕ) → o ++ rest ≡ (b ∷ []) ++ after → is_comment (a ∷ o) ≡ true → ⊥
      comment_here [] rest t c = false≢true c
      comment_here (d ∷ o) rest t c =
          let k : d ≡ b = cc in
          both_ways (eqb a 47 && eqb b 47) apart (subst (λ x. (eqb a 47 && eqb x 47) ≡ true) k (no_comment a d o c))

-- a real with digits before its point
pub real_piece : (b : ℕ) (u r : List ℕ) (n : ℕ) → is_ascii_digit b ≡ true → following is_ascii_digit (b ∷ u) ≡ 46 ∷ r → n ≡ prefix_len is_ascii_digit (b ∷ u) + fraction_len r
    → IsPiece (b ∷ take n u) (drop n u) × (token_kind (b ∷ take n u) ≡ Some Real)
real_piece b u r n d is n_is =
    let f : is_real (b ∷ take n u) ≡ true = subst (λ k. is_real (b ∷ take k u) ≡ true) (sym n_is) (real_is (b ∷ u) r d is) in
    let l : lead b ≡ digit = lead-digit b d in
    let k : token_kind (b ∷ take n u) ≡ Some Real = kind-real (b ∷ take n u) (no_word b (take n u) (λ m. cc)) f in (
      record {
        longest = longest_by b (take n u) (drop n u) (λ o rest t s.
            no_longer o rest (ap (λ x. b ∷ x) (t ∙ take-append-drop n u)) (only b o digit l s));
        taken = taken_by_kind (b ∷ take n u) Real k;
      },
      k,
    ) where
      fits : n ≤ length u
      fits = omega (arith, real_fits (b ∷ u) r is)

      no_longer : (o rest : List ℕ) → (b ∷ o) ++ rest ≡ b ∷ u
          → (is_fraction (begins is_ascii_digit (b ∷ o)) (following is_ascii_digit (b ∷ o)) ≡ true) ⊎ ((list_all is_ascii_digit (b ∷ o) ≡ true) × (is_natural (b ∷ o) ≡ true))
          → length o ≤ length (take n u)
      no_longer o rest t f = elim f [
        | inl real ↦
            (let h : (x : List ℕ) × (following is_ascii_digit ((b ∷ o) ++ rest) ≡ 46 ∷ x) × (length (b ∷ o) ≤ prefix_len is_ascii_digit ((b ∷ o) ++ rest) + suc (fraction_len x)) =
            real_longest (begins is_ascii_digit (b ∷ o)) (b ∷ o) rest real in
            let same : 46 ∷ h.0 ≡ 46 ∷ r = sym h.1 ∙ ap (following is_ascii_digit) t ∙ is in
            let x_is : h.0 ≡ r = cc in
            omega (arith, h.2, ap fraction_len x_is, ap (prefix_len is_ascii_digit) t, n_is, length-take-le n u fits))
        | inr natural ↦ omega (arith, run_longest is_ascii_digit (b ∷ o) rest natural.0, ap (prefix_len is_ascii_digit) t, n_is, length-take-le n u fits)
      ]

-- a real with none
pub point_piece : (r : List ℕ) → begins is_ascii_digit r ≡ true
    → IsPiece (46 ∷ take (fraction_len r) r) (drop (fraction_len r) r) × (token_kind (46 ∷ take (fraction_len r) r) ≡ Some Real)
point_piece r e =
    let x : List ℕ = take (fraction_len r) r in
    let f : is_real (46 ∷ x) ≡ true = and_from (begins is_ascii_digit x) (is_exponent (following is_ascii_digit x)) (begins_fraction r e) (fraction_is r) in
    let k : token_kind (46 ∷ x) ≡ Some Real = kind-real (46 ∷ x) refl f in (
      record {
        longest = longest_by 46 x (drop (fraction_len r) r) (λ o rest t s.
            omega (arith, fraction_longest o rest (only 46 o point refl s).1, ap fraction_len (t ∙ take-append-drop (fraction_len r) r), length-take-le (fraction_len r) r (fraction_fits r)));
        taken = taken_by_kind (46 ∷ x) Real k;
      },
      k,
    )
