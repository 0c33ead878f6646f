-- Each text is a file or has a bad line.
use Rattle.std.proofs.Common.{◌≡◌, ◌≢◌, ℕ, ◌+◌, ◌<◌, ◌≤◌, suc, zero, true, false, eqb, ◌||◌, ◌⊎◌, inl, inr, List, [], ◌∷◌, ◌++◌, length, refl, sym, ap, ap₂, ◌∙◌, subst, ne_eqb, true≢false, arith, length-append, Option, None, Some}
use Rattle.std.proofs.lemmas.Bool.{cases_Bool, cases_eq}
use Rattle.zx_model.specs.Bits.{member}
use Rattle.zx_text.specs.Files.{Version, One, Two}
use Rattle.zx_text.specs.Pieces.{pieces}
use Rattle.zx_text.specs.BadLines.{IsFirstBad}
use Rattle.zx_text.specs.Reading.{most_bytes}
use Rattle.zx_text.specs.Formats.{Format, IsFormat, IsTaken, IsRefused, IsWhole}
use Rattle.zx_text.specs.Internal.Lined.{IsReadOn, IsStopped}
use Rattle.zx_text.proofs.WalkLemmas.{read_on, only_whole}
use Rattle.zx_text.proofs.BadLineLemmas.{whole_file, stopped_bad, no_line_bad, no_header_bad}

-- ---- two lists are equal or not
same_or_not : {A : Type 0} → ((x y : A) → (x ≡ y) ⊎ (x ≢ y)) → (xs ys : List A) → (xs ≡ ys) ⊎ (xs ≢ ys)
same_or_not decide [] [] = inl refl
same_or_not decide [] (y ∷ ys) = inr (λ e. cc)
same_or_not decide (x ∷ xs) [] = inr (λ e. cc)
same_or_not {A} decide (x ∷ xs) (y ∷ ys) = both (decide x y) (same_or_not decide xs ys)
  where
    first_of : x ∷ xs ≡ y ∷ ys → x ≡ y
    first_of e = cc

    rest_of : x ∷ xs ≡ y ∷ ys → xs ≡ ys
    rest_of e = cc

    both : (x ≡ y) ⊎ (x ≢ y) → (xs ≡ ys) ⊎ (xs ≢ ys) → (x ∷ xs ≡ y ∷ ys) ⊎ (x ∷ xs ≢ y ∷ ys)
    both (inl e) (inl f) = inl (ap₂ (λ z zs. z ∷ zs) e f)
    both (inl e) (inr n) = inr (λ f. n (rest_of f))
    both (inr n) others = inr (λ f. n (first_of f))

same_text : (a b : List ℕ) → (a ≡ b) ⊎ (a ≢ b)
same_text a b = same_or_not cases_eq a b

same_pieces : (a b : List (List ℕ)) → (a ≡ b) ⊎ (a ≢ b)
same_pieces a b = same_or_not same_text a b

-- ---- a text has a first line, or no line feed
record IsCut (text : List ℕ) : Type 0 where
  line : List ℕ
  more : List ℕ
  cut : text ≡ line ++ 10 ∷ more
  is_line : member 10 line ≡ false

cut_or_not : (text : List ℕ) → IsCut text ⊎ (member 10 text ≡ false)
cut_or_not [] = inr refl
cut_or_not (b ∷ bs) = at (cases_eq b 10) (cut_or_not bs)
  where
    other : b ≢ 10 → eqb 10 b ≡ false
    other n = ne_eqb 10 b (λ e. n (sym e))

    at : (b ≡ 10) ⊎ (b ≢ 10) → IsCut bs ⊎ (member 10 bs ≡ false) → IsCut (b ∷ bs) ⊎ (member 10 (b ∷ bs) ≡ false)
    at (inl e) rest = inl (record { line = []; more = bs; cut = ap (λ x. x ∷ bs) e; is_line = refl })
    at (inr n) (inl c) =
        inl (record { line = b ∷ c.line; more = c.more; cut = ap (λ xs. b ∷ xs) c.cut; is_line = ap (λ x. x || member 10 c.line) (other n) ∙ c.is_line })
    at (inr n) (inr none) = inr (ap (λ x. x || member 10 bs) (other n) ∙ none)

cut_shorter : {text : List ℕ} → (c : IsCut text) → length c.more < length text
cut_shorter {text} c =
    let whole = ap length c.cut ∙ length-append c.line (10 ∷ c.more) in
    omega (arith, whole)

module _ (F : Format) (laws : IsFormat F) where
  -- ---- a line leads on, or no line of its parts does
  taken_or_not : (version : Version) (st : F.State) (line : List ℕ) → ((next : F.State) × IsTaken F version st line next) ⊎ IsRefused F version st line
  taken_or_not version st line = at (same_pieces (F.parts said) (pieces 32 line)) (cases_Bool (F.is_small said)) (F.step version st said) refl
    where
      said : F.Line
      said = laws.read (pieces 32 line)

      only_said : (l : F.Line) → F.is_small l ≡ true → F.parts l ≡ pieces 32 line → l ≡ said
      only_said l fits is = sym (laws.read_parts l fits) ∙ ap laws.read is

      at : (F.parts said ≡ pieces 32 line) ⊎ (F.parts said ≢ pieces 32 line) → (F.is_small said ≡ true) ⊎ (F.is_small said ≡ false) → (o : Option F.State)
          → F.step version st said ≡ o → ((next : F.State) × IsTaken F version st line next) ⊎ IsRefused F version st line
      at (inl same) (inl small) (Some next) leads = inl (next, record { said = said; small = small; parts = same; leads = leads })
      at (inl same) (inl small) None leads = inr (λ l fits is. ap (F.step version st) (only_said l fits is) ∙ leads)
      at (inl same) (inr large) o leads = inr (λ l fits is. absurd (true≢false (sym fits ∙ ap F.is_small (only_said l fits is) ∙ large)))
      at (inr other) small o leads = inr (λ l fits is. absurd (other (ap F.parts (sym (only_said l fits is)) ∙ is)))

  -- ---- the lines of a text are those of a file, or one of them doesn't fit
  abbrev IsTold : Version → List ℕ → Type 0
  IsTold version text = ((end : F.State) × IsWhole F version text end) ⊎ ((line : ℕ) × IsStopped F version text line)

  ended : (version : Version) (text rest : List ℕ) (line : ℕ) (st : F.State) → IsReadOn F version text line st rest → member 10 rest ≡ false → IsTold version text
  ended version text rest line st done none = at rest refl (cases_Bool (F.is_over st))
    where
      short : (rest ≡ [] → F.is_over st ≡ false) → IsTold version text
      short not_over = inr (line, record { state = st; rest = rest; read = done; why = inr (record { no_line = none; not_over = not_over }) })

      at : (found : List ℕ) → rest ≡ found → (F.is_over st ≡ true) ⊎ (F.is_over st ≡ false) → IsTold version text
      at (b ∷ bs) is over = short (λ e. absurd (cc))
      at [] is (inl over) = inl (st, only_whole F done is over)
      at [] is (inr not_over) = short (λ e. not_over)

  line_more : (version : Version) (text rest : List ℕ) (line : ℕ) (st : F.State) → IsReadOn F version text line st rest
      → ((next : F.State) (more : List ℕ) → length more < length rest → IsReadOn F version text (line + 1) next more → IsTold version text)
      → IsTold version text
  line_more version text rest line st done further = at (cut_or_not rest)
    where
      by_line : (c : IsCut rest) → ((next : F.State) × IsTaken F version st c.line next) ⊎ IsRefused F version st c.line → IsTold version text
      by_line c (inl taken) = further taken.0 c.more (cut_shorter c) (read_on F done c.cut taken.1)
      by_line c (inr none) =
          inr (
            line,
            record {
              state = st;
              rest = rest;
              read = done;
              why = inl (record { line = c.line; more = c.more; cut = c.cut; is_line = c.is_line; unfit = none });
            },
          )

      at : IsCut rest ⊎ (member 10 rest ≡ false) → IsTold version text
      at (inl c) = by_line c (taken_or_not version st c.line)
      at (inr none) = ended version text rest line st done none

  told : (most : ℕ) (version : Version) (text rest : List ℕ) (line : ℕ) (st : F.State) → length rest ≤ most → IsReadOn F version text line st rest → IsTold version text
  told zero version text rest line st few done = line_more version text rest line st done (λ next more less read. absurd (omega (arith, few, less)))
  told (suc most) version text rest line st few done =
      line_more version text rest line st done (λ next more less read. told most version text more (line + 1) next (omega (arith, few, less)) read)

  -- ---- a whole text
  abbrev IsDecided : List ℕ → Type 0
  IsDecided text = F.IsFile text ⊎ ((line : ℕ) × IsFirstBad F.IsFile text line)

  behind_header : (version : Version) (text : List ℕ) → length text ≤ most_bytes → IsDecided (F.word version ++ 10 ∷ text)
  behind_header version text short =
      at (told (length text) version text text 2 F.begun (omega arith) (record { lines = []; cut = refl; leads = refl; number = refl }))
    where
      at : IsTold version text → IsDecided (F.word version ++ 10 ∷ text)
      at (inl whole) = inl (laws.is_file _ whole.0 (whole_file F laws version text whole.0 whole.1))
      at (inr stopped) = inr (stopped.0, stopped_bad F laws version text stopped.0 stopped.1 short)

  pub file_or_bad : (text : List ℕ) → length text ≤ most_bytes → F.IsFile text ⊎ ((line : ℕ) × IsFirstBad F.IsFile text line)
  file_or_bad text short = at (cut_or_not text)
    where
      headed : (version : Version) (c : IsCut text) → F.word version ≡ c.line → IsDecided text
      headed version c first =
          let less = cut_shorter c in
          subst IsDecided (ap (λ l. l ++ 10 ∷ c.more) first ∙ sym c.cut) (behind_header version c.more (omega (arith, short, less)))

      neither : (line : List ℕ) → F.word One ≢ line → F.word Two ≢ line → (version : Version) → F.word version ≢ line
      neither line n m One = n
      neither line n m Two = m

      by_header : (c : IsCut text) → (F.word One ≡ c.line) ⊎ (F.word One ≢ c.line) → (F.word Two ≡ c.line) ⊎ (F.word Two ≢ c.line) → IsDecided text
      by_header c (inl e) second = headed One c e
      by_header c (inr n) (inl e) = headed Two c e
      by_header c (inr n) (inr m) = inr (1, no_header_bad F laws text c.line c.more c.cut c.is_line (neither c.line n m))

      at : IsCut text ⊎ (member 10 text ≡ false) → IsDecided text
      at (inl c) = by_header c (same_text (F.word One) c.line) (same_text (F.word Two) c.line)
      at (inr none) = inr (1, no_line_bad F laws text none)
