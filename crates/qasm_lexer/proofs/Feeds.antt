-- No form but the line feed alone has a line feed, so cuts of lines go together.
use Rattle.std.proofs.Common.{◌≡◌, ℕ, ◌+◌, ◌<◌, ◌≤◌, Bool, true, ◌&&◌, ◌||◌, eqb, List, [], ◌∷◌, ◌++◌, length, refl, sym, ap, ◌∙◌, subst, arith, inl, inr, ◌⊎◌, append_assoc, length-append}
use Rattle.std.specs.List.{list_all, concat}
use Rattle.std.proofs.lemmas.Bool.{false≢true, and_parts, and_from, or_cases, cases_Bool, eqb-true, ne_eqb, not_from_false}
use Rattle.std.proofs.lemmas.List.{append-nil}
use Rattle.std.specs.Char.{is_ascii_digit, is_ascii_alphabetic}
use Rattle.qasm_lexer.specs.Forms.{following, begins, is_word_byte, is_no_feed, is_mark, is_sign_byte, after_sign, are_digits, is_exponent, is_fraction, is_closed, is_comment, is_empty}
use Rattle.qasm_lexer.specs.Tokens.{signs, is_form, ArePieces, Lexeme, IsCut, IsCutUpTo}
use Rattle.qasm_lexer.proofs.Leads.{white, point, quote, lead, letter_range, digit_range, seen, table_all, IsLongest, piece_form, letter, digit, other, Lead, SeenAt}
use Rattle.qasm_lexer.proofs.Cuts.{IsCutUpTo-then, form_some}

no_feed_at : (b : ℕ) → (b ≡ 10 → ⊥) → is_no_feed b ≡ true
no_feed_at b n = not_from_false (eqb b 10) (ne_eqb b 10 n)

digit_no_feed : (b : ℕ) → is_ascii_digit b ≡ true → is_no_feed b ≡ true
digit_no_feed b e = no_feed_at b (λ k. omega (arith, digit_range b e))

letter_no_feed : (b : ℕ) → is_ascii_alphabetic b ≡ true → is_no_feed b ≡ true
letter_no_feed b e = no_feed_at b (λ k. elim (letter_range b e) [ inl r ↦ omega arith | inr r ↦ omega arith ])

word_no_feed : (b : ℕ) → is_word_byte b ≡ true → is_no_feed b ≡ true
word_no_feed b e = elim (or_cases (is_ascii_alphabetic b || is_ascii_digit b) (eqb b 95) e) [
  | inl f ↦ elim (or_cases (is_ascii_alphabetic b) (is_ascii_digit b) f) [ inl l ↦ letter_no_feed b l | inr d ↦ digit_no_feed b d ]
  | inr f ↦ no_feed_at b (λ k. omega (arith, eqb-true b 95 f))
]

either_no_feed : (b m n : ℕ) → (eqb b m || eqb b n) ≡ true → 10 < m → 10 < n → is_no_feed b ≡ true
either_no_feed b m n e h k = elim (or_cases (eqb b m) (eqb b n) e) [
  | inl f ↦ no_feed_at b (λ z. omega (arith, eqb-true b m f))
  | inr f ↦ no_feed_at b (λ z. omega (arith, eqb-true b n f))
]

all_by : (p q : ℕ → Bool) → ((b : ℕ) → p b ≡ true → q b ≡ true) → (f : List ℕ) → list_all p f ≡ true → list_all q f ≡ true
all_by p q each [] e = refl
all_by p q each (b ∷ f) e =
    let h : (p b ≡ true) × (list_all p f ≡ true) = and_parts (p b) (list_all p f) e in
    and_from (q b) (list_all q f) (each b h.0) (all_by p q each f h.1)

-- a list that goes on with a digit test has no feed before where what is after has none
after_no_feed : (f : List ℕ) → list_all is_no_feed (following is_ascii_digit f) ≡ true → list_all is_no_feed f ≡ true
after_no_feed [] e = refl
after_no_feed (b ∷ f) e = elim (cases_Bool (is_ascii_digit b)) [
  | inl d ↦ and_from (is_no_feed b) (list_all is_no_feed f) (digit_no_feed b d) (after_no_feed f (rw d at e))
  | inr d ↦ rw d at e
]

digits_no_feed : (ds : List ℕ) → are_digits ds ≡ true → list_all is_no_feed ds ≡ true
digits_no_feed ds e = all_by is_ascii_digit is_no_feed digit_no_feed ds (and_parts (begins is_ascii_digit ds) (list_all is_ascii_digit ds) e).1

signed_no_feed : (o : List ℕ) → are_digits (after_sign o) ≡ true → list_all is_no_feed o ≡ true
signed_no_feed [] e = refl
signed_no_feed (c ∷ o) e = elim (cases_Bool (is_sign_byte c)) [
  | inl s ↦ and_from (is_no_feed c) (list_all is_no_feed o) (either_no_feed c 43 45 s (omega arith) (omega arith)) (digits_no_feed o (rw s at e))
  | inr s ↦ digits_no_feed (c ∷ o) (rw s at e)
]

exponent_no_feed : (f : List ℕ) → is_exponent f ≡ true → list_all is_no_feed f ≡ true
exponent_no_feed [] e = refl
exponent_no_feed (b ∷ o) e =
    let p : (is_mark b ≡ true) × (are_digits (after_sign o) ≡ true) = and_parts (is_mark b) (are_digits (after_sign o)) e in
    and_from (is_no_feed b) (list_all is_no_feed o) (either_no_feed b 101 69 p.0 (omega arith) (omega arith)) (signed_no_feed o p.1)

fraction_no_feed : (some : Bool) (f : List ℕ) → is_fraction some f ≡ true → list_all is_no_feed f ≡ true
fraction_no_feed some [] e = refl
fraction_no_feed some (b ∷ o) e =
    let p : ((eqb b 46 && (some || begins is_ascii_digit o)) ≡ true) × (is_exponent (following is_ascii_digit o) ≡ true) =
    and_parts (eqb b 46 && (some || begins is_ascii_digit o)) (is_exponent (following is_ascii_digit o)) e in
    let q : (eqb b 46 ≡ true) × ((some || begins is_ascii_digit o) ≡ true) = and_parts (eqb b 46) (some || begins is_ascii_digit o) p.0 in
    and_from (is_no_feed b) (list_all is_no_feed o) (no_feed_at b (λ z. omega (arith, eqb-true b 46 q.0)))
    (after_no_feed o (exponent_no_feed (following is_ascii_digit o) p.1))

closed_no_feed : (o : List ℕ) → is_closed o ≡ true → list_all is_no_feed o ≡ true
closed_no_feed [] e = refl
closed_no_feed (c ∷ o) e = elim (cases_Bool (eqb c 34)) [
  | inl f ↦
      and_from (is_no_feed c) (list_all is_no_feed o) (no_feed_at c (λ z. omega (arith, eqb-true c 34 f))) (empty_no_feed o (rw f at e))
  | inr f ↦
      (let p : (is_no_feed c ≡ true) × (is_closed o ≡ true) = and_parts (is_no_feed c) (is_closed o) (rw f at e) in
      and_from (is_no_feed c) (list_all is_no_feed o) p.0 (closed_no_feed o p.1))
] where
  empty_no_feed : (o : List ℕ) → is_empty o ≡ true → list_all is_no_feed o ≡ true
  empty_no_feed [] e = refl
  empty_no_feed (c ∷ o) e = absurd (false≢true e)

comment_no_feed : (c : ℕ) (o : List ℕ) → is_comment (c ∷ o) ≡ true → list_all is_no_feed (c ∷ o) ≡ true
comment_no_feed c [] e = absurd (false≢true e)
comment_no_feed c (d ∷ o) e =
    let p : ((eqb c 47 && eqb d 47) ≡ true) × (list_all is_no_feed o ≡ true) = and_parts (eqb c 47 && eqb d 47) (list_all is_no_feed o) e in
    let q : (eqb c 47 ≡ true) × (eqb d 47 ≡ true) = and_parts (eqb c 47) (eqb d 47) p.0 in
    rw (eqb-true c 47 q.0) (rw (eqb-true d 47 q.1) p.1)

quote_lead : (c : ℕ) → lead c ≡ quote → is_no_feed c ≡ true
quote_lead c l = no_feed_at c (λ z. let k : white ≡ quote = sym (ap lead z) ∙ l in cc)

point_lead : (c : ℕ) → lead c ≡ point → is_no_feed c ≡ true
point_lead c l = no_feed_at c (λ z. let k : white ≡ point = sym (ap lead z) ∙ l in cc)

pub form_no_feed : (c : ℕ) (o : List ℕ) → is_form (c ∷ o) ≡ true → (o ≡ []) ⊎ (list_all is_no_feed (c ∷ o) ≡ true)
form_no_feed c o e = by (lead c) refl (seen c o e) where
  by : (l : Lead) → lead c ≡ l → SeenAt l c o → (o ≡ []) ⊎ (list_all is_no_feed (c ∷ o) ≡ true)
  by white l s = inl s
  by letter l s = inr (all_by is_word_byte is_no_feed word_no_feed (c ∷ o) s)
  by digit l (inl h) = inr (after_no_feed (c ∷ o) (fraction_no_feed (begins is_ascii_digit (c ∷ o)) (following is_ascii_digit (c ∷ o)) h))
  by digit l (inr h) = inr (all_by is_ascii_digit is_no_feed digit_no_feed (c ∷ o) h.0)
  by point l s = inr (and_from (is_no_feed c) (list_all is_no_feed o) (point_lead c l) (after_no_feed o (exponent_no_feed (following is_ascii_digit o) s.1)))
  by quote l s = inr (and_from (is_no_feed c) (list_all is_no_feed o) (quote_lead c l) (closed_no_feed o s))
  by other l (inl h) = inr (comment_no_feed c o h)
  by other l (inr h) = inr (table_all (list_all is_no_feed) signs refl (c ∷ o) h.1)

-- where a feed stands in a form, it is the whole form
pub feed_alone : (y z : List ℕ) → is_form (y ++ 10 ∷ z) ≡ true → z ≡ []
feed_alone [] z e = elim (form_no_feed 10 z e) [ inl n ↦ n | inr f ↦ absurd (false≢true f) ]
feed_alone (c ∷ y) z e = elim (form_no_feed c (y ++ 10 ∷ z) e) [
  | inl n ↦ absurd (omega (arith, ap length n, length-append y (10 ∷ z)))
  | inr f ↦ absurd (no_feed_before (c ∷ y) f)
] where
  no_feed_before : (x : List ℕ) → list_all is_no_feed (x ++ 10 ∷ z) ≡ true → ⊥
  no_feed_before [] f = false≢true f
  no_feed_before (d ∷ x) f = no_feed_before x (and_parts (is_no_feed d) (list_all is_no_feed (x ++ 10 ∷ z)) f).1

-- two prefixes of one list: one begins the other
pub prefixes : (a b x y : List ℕ) → a ++ x ≡ b ++ y → ((z : List ℕ) × (a ++ z ≡ b)) ⊎ ((z : List ℕ) × (b ++ z ≡ a) × (0 < length z))
prefixes [] b x y e = inl (b, refl)
prefixes (c ∷ a) [] x y e = inr (c ∷ a, refl, omega arith)
prefixes (c ∷ a) (d ∷ b) x y e =
    let k : c ≡ d = cc in
    let t : a ++ x ≡ b ++ y = cc in
    elim (prefixes a b x y t) [
      | inl f ↦ (let r : a ++ f.0 ≡ b = f.1 in inl (f.0, cc))
      | inr f ↦ (let r : b ++ f.0 ≡ a = f.1 in inr (f.0, cc, f.2))
    ]

-- what is longest before a line feed stays so, whatever follows that
pub longest_on : (form x y after : List ℕ) → form ++ x ≡ y ++ 10 ∷ [] → IsLongest form x → IsLongest form (x ++ after)
longest_on form x y after e l = each where
  each : (longer rest : List ℕ) → longer ++ rest ≡ form ++ (x ++ after) → is_form longer ≡ true → length longer ≤ length form
  each longer rest t f = elim (prefixes longer (form ++ x) rest after (t ∙ sym (append_assoc form x after))) [
    | inl h ↦ l longer h.0 h.1 f
    | inr h ↦
        (let all : y ++ 10 ∷ h.0 ≡ longer = sym (append_assoc y (10 ∷ []) h.0) ∙ ap (λ r. r ++ h.0) (sym e) ∙ h.1 in
        let none : h.0 ≡ [] = feed_alone y h.0 (subst (λ r. is_form r ≡ true) (sym all) f) in
        absurd (omega (arith, ap length none, h.2)))
  ]

-- the same end after a prefix that is dropped
pub ends_on : (p : List ℕ) (x y : List ℕ) → p ++ x ≡ y ++ 10 ∷ [] → 0 < length x → (z : List ℕ) × (x ≡ z ++ 10 ∷ [])
ends_on [] x y e some = (y, e)
ends_on (c ∷ p) x [] e some = absurd (omega (arith, ap length e, length-append p x))
ends_on (c ∷ p) x (d ∷ y) e some = let t : p ++ x ≡ y ++ 10 ∷ [] = cc in ends_on p x y t some

nil_or_some : (x : List ℕ) → (x ≡ []) ⊎ (0 < length x)
nil_or_some [] = inl refl
nil_or_some (b ∷ x) = inr (omega arith)

pub pieces_on : (ps : List (List ℕ)) (y after : List ℕ) → (concat ps ≡ []) ⊎ (concat ps ≡ y ++ 10 ∷ []) → ArePieces ps [] → ArePieces ps after
pieces_on [] y after e a = tt
pieces_on (p ∷ ps) y after (inl e) a = absurd (omega (arith, form_some p (piece_form p _ a.0), ap length e, length-append p (concat ps)))
pieces_on (p ∷ ps) y after (inr e) a =
    let here : IsLongest p ((concat ps ++ []) ++ after) =
    longest_on p (concat ps ++ []) y after (ap (λ r. p ++ r) (append-nil (concat ps)) ∙ e) a.0.longest in (
      record { longest = subst (λ r. IsLongest p (r ++ after)) (append-nil (concat ps)) here; taken = a.0.taken },
      elim (nil_or_some (concat ps)) [
        | inl n ↦ pieces_on ps y after (inl n) a.1
        | inr n ↦ (let z : (z : List ℕ) × (concat ps ≡ z ++ 10 ∷ []) = ends_on p (concat ps) y e n in pieces_on ps z.0 after (inr z.1) a.1)
      ],
    )

-- a cut of a text that ends with a line feed, and a cut of what follows it, are a cut of both
pub IsCut-append : (place : ℕ) (line after : List ℕ) (these those : List Lexeme) (y : List ℕ) → line ≡ y ++ 10 ∷ []
    → IsCut place line these → IsCut (place + length line) after those → IsCut place (line ++ after) (these ++ those)
IsCut-append place line after these those y e c d =
    let whole : concat c.pieces ≡ line = sym (append-nil (concat c.pieces)) ∙ sym c.whole in
    let first : IsCutUpTo place (line ++ after) after these = record {
      pieces = c.pieces;
      whole = ap (λ r. r ++ after) (sym whole);
      each = pieces_on c.pieces y after (inr (whole ∙ e)) c.each;
      tokens_are = c.tokens_are;
    } in
    IsCutUpTo-then place (place + length line) (line ++ after) after [] these those first d (omega (arith, length-append line after))
