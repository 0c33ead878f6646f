-- A form is known by its first byte.
use Rattle.std.proofs.Common.{◌≡◌, ℕ, ◌≤◌, ◌++◌, Bool, true, false, cond, ◌&&◌, ◌||◌, eqb, leb, List, [], ◌∷◌, length, refl, sym, ap, ◌∙◌, subst, arith, inl, inr, ◌⊎◌, Option, None, Some}
use Rattle.std.specs.Option.{is_some}
use Rattle.std.specs.List.{list_all}
use Rattle.std.specs.Str.{bytes_eq}
use Rattle.std.proofs.lemmas.Bool.{false≢true, and_parts, and_from, or_cases, or_left, cases_Bool, eqb-true, leb-true, false_from_ne_true}
use Rattle.std.proofs.lemmas.Slice.Eq.{bytes_eq-Decides}
use Rattle.qasm_lexer.specs.declared.token.TokenKind.{TokenKind}
use Rattle.std.specs.Char.{is_ascii_digit, is_ascii_alphabetic}
use Rattle.std.specs.Int.{is_in_range}
use Rattle.qasm_lexer.specs.Forms.{following, begins, is_space, is_no_feed, is_word_byte, is_empty, is_white, is_comment, is_word, is_natural, is_real, is_fraction, is_exponent, is_text, is_closed}
use Rattle.qasm_lexer.specs.declared.token.TokenKind.TheVariants.{Real, Natural, Text}
use Rattle.qasm_lexer.specs.Tokens.{signs, kind_in, token_kind, word_kind, is_blank, is_form, IsPiece}

pub data Lead : Type 0 where
  white : Lead
  letter : Lead
  digit : Lead
  point : Lead
  quote : Lead
  other : Lead

-- what a first byte begins
abbrev pub lead : ℕ → Lead
lead b = cond (is_space b) white (cond (is_ascii_alphabetic b) letter (cond (is_ascii_digit b) digit (cond (eqb b 46) point (cond (eqb b 34) quote other))))

pub letter_range : (b : ℕ) → is_ascii_alphabetic b ≡ true → ((97 ≤ b) × (b ≤ 122)) ⊎ ((65 ≤ b) × (b ≤ 90))
letter_range b e = elim (or_cases (is_in_range 65 90 b) (is_in_range 97 122 b) e) [
  | inl s ↦ (let p : (leb 65 b ≡ true) × (leb b 90 ≡ true) = and_parts (leb 65 b) (leb b 90) s in inr (leb-true 65 b p.0, leb-true b 90 p.1))
  | inr s ↦ (let p : (leb 97 b ≡ true) × (leb b 122 ≡ true) = and_parts (leb 97 b) (leb b 122) s in inl (leb-true 97 b p.0, leb-true b 122 p.1))
]

pub digit_range : (b : ℕ) → is_ascii_digit b ≡ true → (48 ≤ b) × (b ≤ 57)
digit_range b e = let p : (leb 48 b ≡ true) × (leb b 57 ≡ true) = and_parts (leb 48 b) (leb b 57) e in (leb-true 48 b p.0, leb-true b 57 p.1)

space_range : (b : ℕ) → is_space b ≡ true → b ≤ 32
space_range b e = elim (or_cases (eqb b 32 || eqb b 9 || eqb b 13) (eqb b 10) e) [
  | inl f ↦ elim (or_cases (eqb b 32 || eqb b 9) (eqb b 13) f) [
    | inl g ↦ elim (or_cases (eqb b 32) (eqb b 9) g) [
      | inl h ↦ omega (arith, eqb-true b 32 h)
      | inr h ↦ omega (arith, eqb-true b 9 h)
    ]
    | inr g ↦ omega (arith, eqb-true b 13 g)
  ]
  | inr f ↦ omega (arith, eqb-true b 10 f)
]

pub letter_no_space : (b : ℕ) → is_ascii_alphabetic b ≡ true → is_space b ≡ false
letter_no_space b e = false_from_ne_true (is_space b) (λ s. elim (letter_range b e) [ inl r ↦ omega (arith, space_range b s) | inr r ↦ omega (arith, space_range b s) ])

pub digit_no_space : (b : ℕ) → is_ascii_digit b ≡ true → is_space b ≡ false
digit_no_space b e = false_from_ne_true (is_space b) (λ s. omega (arith, digit_range b e, space_range b s))

pub digit_no_letter : (b : ℕ) → is_ascii_digit b ≡ true → is_ascii_alphabetic b ≡ false
digit_no_letter b e = false_from_ne_true (is_ascii_alphabetic b) (λ l. elim (letter_range b l) [ inl r ↦ omega (arith, digit_range b e) | inr r ↦ omega (arith, digit_range b e) ])

pub lead-space : (b : ℕ) → is_space b ≡ true → lead b ≡ white
lead-space b e = rw e refl

pub lead-letter : (b : ℕ) → is_ascii_alphabetic b ≡ true → lead b ≡ letter
lead-letter b e = rw (letter_no_space b e) (rw e refl)

pub lead-digit : (b : ℕ) → is_ascii_digit b ≡ true → lead b ≡ digit
lead-digit b e = rw (digit_no_space b e) (rw (digit_no_letter b e) (rw e refl))

pub lead-at : (b c : ℕ) (l : Lead) → eqb b c ≡ true → lead c ≡ l → lead b ≡ l
lead-at b c l e is = ap lead (eqb-true b c e) ∙ is

-- what a table's rows all pass, each of its forms passes
pub table_all : (test : List ℕ → Bool) (rows : List (List ℕ × TokenKind)) → list_all (λ row. test row.0) rows ≡ true
    → (form : List ℕ) → is_some (kind_in rows form) ≡ true → test form ≡ true
table_all test [] all form e = absurd (false≢true e)
table_all test (row ∷ rows) all form e =
    let p : (test row.0 ≡ true) × (list_all (λ row. test row.0) rows ≡ true) = and_parts (test row.0) (list_all (λ row. test row.0) rows) all in
    elim (cases_Bool (bytes_eq form row.0)) [
      | inl t ↦ ap test ((bytes_eq-Decides form row.0).0 t) ∙ p.0
      | inr t ↦ table_all test rows p.1 form (rw t at e)
    ]

abbrev pub is_other : Lead → Bool
is_other other = true
is_other l = false

is_other_true : (l : Lead) → is_other l ≡ true → l ≡ other
is_other_true other e = refl
is_other_true _ e = absurd (false≢true e)

-- one or two bytes, of which the first begins nothing but a sign or a comment
abbrev pub is_short : List ℕ → Bool
is_short [] = false
is_short (a ∷ []) = is_other (lead a)
is_short (a ∷ b ∷ []) = is_other (lead a)
is_short (a ∷ b ∷ c ∷ rest) = false

sign_is_short : (form : List ℕ) → is_some (kind_in signs form) ≡ true → is_short form ≡ true
sign_is_short form e = table_all is_short signs refl form e

pub sign_lead : (c : ℕ) (o : List ℕ) → is_some (kind_in signs (c ∷ o)) ≡ true → (lead c ≡ other) × (length o ≤ 1)
sign_lead c [] e = (is_other_true (lead c) (sign_is_short (c ∷ []) e), omega arith)
sign_lead c (d ∷ []) e = (is_other_true (lead c) (sign_is_short (c ∷ d ∷ []) e), omega arith)
sign_lead c (d ∷ f ∷ o) e = absurd (false≢true (sign_is_short (c ∷ d ∷ f ∷ o) e))

empty_nil : (o : List ℕ) → is_empty o ≡ true → o ≡ []
empty_nil [] e = refl
empty_nil (c ∷ o) e = absurd (false≢true e)

-- what a form is beside its first byte, by what that byte begins
abbrev pub SeenAt : Lead → ℕ → List ℕ → Type 0
SeenAt white c o = o ≡ []
SeenAt letter c o = list_all is_word_byte (c ∷ o) ≡ true
SeenAt digit c o =
    (is_fraction (begins is_ascii_digit (c ∷ o)) (following is_ascii_digit (c ∷ o)) ≡ true) ⊎ ((list_all is_ascii_digit (c ∷ o) ≡ true) × (is_natural (c ∷ o) ≡ true))
SeenAt point c o = (begins is_ascii_digit o ≡ true) × (is_exponent (following is_ascii_digit o) ≡ true)
SeenAt quote c o = is_closed o ≡ true
SeenAt other c o = (is_comment (c ∷ o) ≡ true) ⊎ ((length o ≤ 1) × (is_some (kind_in signs (c ∷ o)) ≡ true))

abbrev pub Seen : ℕ → List ℕ → Type 0
Seen c o = SeenAt (lead c) c o

pub only : (c : ℕ) (o : List ℕ) (l : Lead) → lead c ≡ l → Seen c o → SeenAt l c o
only c o l is s = subst (λ k. SeenAt k c o) is s

see : (c : ℕ) (o : List ℕ) (l : Lead) → lead c ≡ l → SeenAt l c o → Seen c o
see c o l is s = subst (λ k. SeenAt k c o) (sym is) s

see_white : (c : ℕ) (o : List ℕ) → is_white (c ∷ o) ≡ true → Seen c o
see_white c o e =
    let p : (is_space c ≡ true) × (is_empty o ≡ true) = and_parts (is_space c) (is_empty o) e in
    see c o white (lead-space c p.0) (empty_nil o p.1)

see_comment : (c : ℕ) (o : List ℕ) → is_comment (c ∷ o) ≡ true → Seen c o
see_comment c [] e = absurd (false≢true e)
see_comment c (d ∷ o) e =
    let p : ((eqb c 47 && eqb d 47) ≡ true) × (list_all is_no_feed o ≡ true) = and_parts (eqb c 47 && eqb d 47) (list_all is_no_feed o) e in
    let q : (eqb c 47 ≡ true) × (eqb d 47 ≡ true) = and_parts (eqb c 47) (eqb d 47) p.0 in
    see c (d ∷ o) other (lead-at c 47 other q.0 refl) (inl e)

see_word : (c : ℕ) (o : List ℕ) → is_word (c ∷ o) ≡ true → Seen c o
see_word c o e =
    let p : (is_ascii_alphabetic c ≡ true) × (list_all is_word_byte o ≡ true) = and_parts (is_ascii_alphabetic c) (list_all is_word_byte o) e in
    see c o letter (lead-letter c p.0)
    (and_from (is_word_byte c) (list_all is_word_byte o) (or_left (is_ascii_alphabetic c || is_ascii_digit c) (eqb c 95) (or_left (is_ascii_alphabetic c) (is_ascii_digit c) p.0)) p.1)

see_real : (c : ℕ) (o : List ℕ) → is_real (c ∷ o) ≡ true → Seen c o
see_real c o e = elim (cases_Bool (is_ascii_digit c)) [
  | inl d ↦ see c o digit (lead-digit c d) (inl e)
  | inr d ↦
      (let i : is_fraction false (c ∷ o) ≡ true = rw d at e in
      let p : ((eqb c 46 && begins is_ascii_digit o) ≡ true) × (is_exponent (following is_ascii_digit o) ≡ true) =
      and_parts (eqb c 46 && begins is_ascii_digit o) (is_exponent (following is_ascii_digit o)) i in
      let q : (eqb c 46 ≡ true) × (begins is_ascii_digit o ≡ true) = and_parts (eqb c 46) (begins is_ascii_digit o) p.0 in
      see c o point (lead-at c 46 point q.0 refl) (q.1, p.1))
]

see_natural : (c : ℕ) (o : List ℕ) → is_natural (c ∷ o) ≡ true → Seen c o
see_natural c o e = elim (cases_Bool (eqb c 48)) [
  | inl z ↦
      (let n : o ≡ [] = empty_nil o (rw z at e) in
      see c o digit (lead-at c 48 digit z refl) (inr (rw (eqb-true c 48 z) (rw n refl), e)))
  | inr z ↦
      (let i : (is_ascii_digit c && list_all is_ascii_digit o) ≡ true = rw z at e in
      see c o digit (lead-digit c (and_parts (is_ascii_digit c) (list_all is_ascii_digit o) i).0) (inr (i, e)))
]

see_text : (c : ℕ) (o : List ℕ) → is_text (c ∷ o) ≡ true → Seen c o
see_text c o e =
    let p : (eqb c 34 ≡ true) × (is_closed o ≡ true) = and_parts (eqb c 34) (is_closed o) e in
    see c o quote (lead-at c 34 quote p.0 refl) p.1

see_sign : (c : ℕ) (o : List ℕ) → is_some (kind_in signs (c ∷ o)) ≡ true → Seen c o
see_sign c o e = let p : (lead c ≡ other) × (length o ≤ 1) = sign_lead c o e in see c o other p.0 (inr (p.1, e))

-- the six tests of `is_form`
six : (a b c d e f : Bool) (P : Type 0) → (a || b || c || d || e || f) ≡ true → (a ≡ true → P) → (b ≡ true → P) → (c ≡ true → P)
    → (d ≡ true → P) → (e ≡ true → P) → (f ≡ true → P) → P
six true b c d e f P h p q r s t u = p refl
six false true c d e f P h p q r s t u = q refl
six false false true d e f P h p q r s t u = r refl
six false false false true e f P h p q r s t u = s refl
six false false false false true f P h p q r s t u = t refl
six false false false false false f P h p q r s t u = u h

pub seen : (c : ℕ) (o : List ℕ) → is_form (c ∷ o) ≡ true → Seen c o
seen c o e =
    six (is_blank (c ∷ o)) (is_word (c ∷ o)) (is_real (c ∷ o)) (is_natural (c ∷ o)) (is_text (c ∷ o)) (is_some (kind_in signs (c ∷ o))) (Seen c o) e
    (λ h. elim (or_cases (is_white (c ∷ o)) (is_comment (c ∷ o)) h) [ inl w ↦ see_white c o w | inr w ↦ see_comment c o w ])
    (see_word c o) (see_real c o) (see_natural c o) (see_text c o) (see_sign c o)

-- a word is a form
second : (a b c d e f : Bool) → b ≡ true → (a || b || c || d || e || f) ≡ true
second true b c d e f h = refl
second false b c d e f h = rw h refl

pub word_form : (form : List ℕ) → is_word form ≡ true → is_form form ≡ true
word_form form = second (is_blank form) (is_word form) (is_real form) (is_natural form) (is_text form) (is_some (kind_in signs form))

-- no form is longer than this one where it stands, before what follows it
abbrev pub IsLongest : List ℕ → List ℕ → Type 0
IsLongest form after =
    (other rest : List ℕ) → other ++ rest ≡ form ++ after → is_form other ≡ true → length other ≤ length form

-- what is a blank or has a kind is a form
some_form : (blank word real natural text : Bool) (of_word of_sign : Option TokenKind)
    → (blank || is_some (cond word of_word (cond real (Some Real) (cond natural (Some Natural) (cond text (Some Text) of_sign))))) ≡ true
    → (blank || word || real || natural || text || is_some of_sign) ≡ true
some_form false false false false false of_word of_sign e = e
some_form _ _ _ _ _ of_word of_sign e = refl

pub piece_form : (form after : List ℕ) → IsPiece form after → is_form form ≡ true
piece_form form after p =
    some_form (is_blank form) (is_word form) (is_real form) (is_natural form) (is_text form) (word_kind form) (kind_in signs form) p.taken

comment_lead : (c : ℕ) (o : List ℕ) → is_comment (c ∷ o) ≡ true → lead c ≡ other
comment_lead c [] e = absurd (false≢true e)
comment_lead c (d ∷ o) e =
    let p : ((eqb c 47 && eqb d 47) ≡ true) × (list_all is_no_feed o ≡ true) = and_parts (eqb c 47 && eqb d 47) (list_all is_no_feed o) e in
    lead-at c 47 other (and_parts (eqb c 47) (eqb d 47) p.0).0 refl

real_lead : (c : ℕ) (o : List ℕ) → is_real (c ∷ o) ≡ true → (lead c ≡ digit) ⊎ (lead c ≡ point)
real_lead c o e = elim (cases_Bool (is_ascii_digit c)) [
  | inl d ↦ inl (lead-digit c d)
  | inr d ↦
      (let i : is_fraction false (c ∷ o) ≡ true = rw d at e in
      let p : ((eqb c 46 && begins is_ascii_digit o) ≡ true) × (is_exponent (following is_ascii_digit o) ≡ true) =
      and_parts (eqb c 46 && begins is_ascii_digit o) (is_exponent (following is_ascii_digit o)) i in
      inr (lead-at c 46 point (and_parts (eqb c 46) (begins is_ascii_digit o) p.0).0 refl))
]

natural_lead : (c : ℕ) (o : List ℕ) → is_natural (c ∷ o) ≡ true → lead c ≡ digit
natural_lead c o e = elim (cases_Bool (eqb c 48)) [
  | inl z ↦ lead-at c 48 digit z refl
  | inr z ↦ (let i : (is_ascii_digit c && list_all is_ascii_digit o) ≡ true = rw z at e in lead-digit c (and_parts (is_ascii_digit c) (list_all is_ascii_digit o) i).0)
]

pub none_since : {T : Type 0} (o : Option T) → (is_some o ≡ true → ⊥) → o ≡ None
none_since None n = refl
none_since (Some x) n = absurd (n refl)

-- tests that fail by the first byte
module _ (c : ℕ) (o : List ℕ) where
  pub no_blank : (lead c ≡ white → ⊥) → (lead c ≡ other → ⊥) → is_blank (c ∷ o) ≡ false
  no_blank m n = false_from_ne_true (is_blank (c ∷ o)) (λ e. elim (or_cases (is_white (c ∷ o)) (is_comment (c ∷ o)) e) [
    | inl w ↦ m (lead-space c (and_parts (is_space c) (is_empty o) w).0)
    | inr w ↦ n (comment_lead c o w)
  ])

  pub no_word : (lead c ≡ letter → ⊥) → is_word (c ∷ o) ≡ false
  no_word n = false_from_ne_true (is_word (c ∷ o)) (λ e. n (lead-letter c (and_parts (is_ascii_alphabetic c) (list_all is_word_byte o) e).0))

  pub no_real : (lead c ≡ digit → ⊥) → (lead c ≡ point → ⊥) → is_real (c ∷ o) ≡ false
  no_real m n = false_from_ne_true (is_real (c ∷ o)) (λ e. elim (real_lead c o e) [ inl d ↦ m d | inr d ↦ n d ])

  pub no_natural : (lead c ≡ digit → ⊥) → is_natural (c ∷ o) ≡ false
  no_natural n = false_from_ne_true (is_natural (c ∷ o)) (λ e. n (natural_lead c o e))

  pub no_text : (lead c ≡ quote → ⊥) → is_text (c ∷ o) ≡ false
  no_text n = false_from_ne_true (is_text (c ∷ o)) (λ e. n (lead-at c 34 quote (and_parts (eqb c 34) (is_closed o) e).0 refl))

  pub no_sign : (lead c ≡ other → ⊥) → kind_in signs (c ∷ o) ≡ None
  no_sign n = none_since (kind_in signs (c ∷ o)) (λ e. n (sign_lead c o e).0)

-- the kind of a form of each sort
module _ (form : List ℕ) where
  pub kind-word : is_word form ≡ true → token_kind form ≡ word_kind form
  kind-word e = rw e refl

  pub kind-real : is_word form ≡ false → is_real form ≡ true → token_kind form ≡ Some Real
  kind-real e f = rw (e, f) refl

  pub kind-natural : is_word form ≡ false → is_real form ≡ false → is_natural form ≡ true → token_kind form ≡ Some Natural
  kind-natural e f g = rw (e, f, g) refl

  pub kind-text : is_word form ≡ false → is_real form ≡ false → is_natural form ≡ false → is_text form ≡ true → token_kind form ≡ Some Text
  kind-text e f g h = rw (e, f, g, h) refl

  pub kind-sign : is_word form ≡ false → is_real form ≡ false → is_natural form ≡ false → is_text form ≡ false → token_kind form ≡ kind_in signs form
  kind-sign e f g h = rw (e, f, g, h) refl
