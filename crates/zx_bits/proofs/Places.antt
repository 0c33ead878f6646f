-- The numbers of a range that pass a test, as a rising list.
use Rattle.std.proofs.Common.{◌≡◌, refl, sym, ◌∙◌, ap, ap₂, ℕ, zero, suc, ◌+◌, ◌<◌, ◌≤◌, Bool, true, false, ◌&&◌, ◌||◌, eqb, ltb, if◌then◌else◌, List, [], ◌∷◌, length, filter, count_by, inl, inr, eq-eqb, ne_eqb, lt-ltb, arith}
use Rattle.std.specs.List.{list_all, range_with_len}
use Rattle.std.proofs.lemmas.Bool.{cases_eq, cases_lt, and_from}
use Rattle.std.proofs.lemmas.List.Sums.{length-filter}
use Rattle.zx_model.specs.Bits.{one_if, member}
use Rattle.zx_bits.specs.Sets.{IsRising}
use Rattle.zx_bits.specs.Internal.Words.{how_many}
use Rattle.zx_model.proofs.BitLemmas.{and-false, and-true}
use Rattle.zx_bits.proofs.Counts.{many-same}

-- the numbers from a start on, so many of them, that pass a test
abbrev pub picked : (ℕ → Bool) → ℕ → ℕ → List ℕ
picked f start n = filter f (range_with_len start n)

-- ---- which they are

member-kept : (b : Bool) (p x : ℕ) (xs : List ℕ) → member p (if b then x ∷ xs else xs) ≡ ((b && eqb p x) || member p xs)
member-kept true p x xs = refl
member-kept false p x xs = refl

member-filter : (f : ℕ → Bool) (xs : List ℕ) (p : ℕ) → member p (filter f xs) ≡ (f p && member p xs)
member-filter f [] p = sym (and-false (f p))
member-filter f (x ∷ xs) p =
    member-kept (f x) p x (filter f xs) ∙ ap (λ r. (f x && eqb p x) || r) (member-filter f xs p)
    ∙ elim (cases_eq p x) [
      | inl e ↦ here (f x) (f p) (eqb p x) (member p xs) (eq-eqb p x e) (ap f (sym e))
      | inr apart ↦ there (f x) (f p) (eqb p x) (member p xs) (ne_eqb p x apart)
    ]
  where
    here : (a b e m : Bool) → e ≡ true → a ≡ b → ((a && e) || (b && m)) ≡ (b && (e || m))
    here true b e m is same = rw (← same) (rw is refl)
    here false b e m is same = rw (← same) refl

    there : (a b e m : Bool) → e ≡ false → ((a && e) || (b && m)) ≡ (b && (e || m))
    there a b e m is = rw is (rw (and-false a) refl)

member-range : (n start p : ℕ) → start ≤ p → p < start + n → member p (range_with_len start n) ≡ true
member-range zero start p le lt = absurd (omega arith)
member-range (suc n) start p le lt =
    elim (cases_eq p start) [
      | inl e ↦ ap (λ b. b || member p (range_with_len (start + 1) n)) (eq-eqb p start e)
      | inr apart ↦ ap (λ b. b || member p (range_with_len (start + 1) n)) (ne_eqb p start apart) ∙ member-range n (start + 1) p (omega arith) (omega arith)
    ]

-- where none passes from the end on
pub member-picked : (f : ℕ → Bool) (n p : ℕ) → ((k : ℕ) → n ≤ k → f k ≡ false) → member p (picked f 0 n) ≡ f p
member-picked f n p none =
    member-filter f (range_with_len 0 n) p
    ∙ elim (cases_lt p n) [
      | inl l ↦ ap (λ b. f p && b) (member-range n 0 p (omega arith) (omega arith)) ∙ and-true (f p)
      | inr g ↦ unset (f p) (member p (range_with_len 0 n)) (none p g)
    ]
  where
    unset : (a b : Bool) → a ≡ false → (a && b) ≡ a
    unset a b e = rw e refl

-- ---- they rise

above : (b : Bool) (x y : ℕ) (xs : List ℕ) → x < y → list_all (ltb x) xs ≡ true → list_all (ltb x) (if b then y ∷ xs else xs) ≡ true
above true x y xs lt all = and_from _ _ (lt-ltb x y lt) all
above false x y xs lt all = all

above-picked : (f : ℕ → Bool) (n start x : ℕ) → x < start → list_all (ltb x) (picked f start n) ≡ true
above-picked f zero start x lt = refl
above-picked f (suc n) start x lt = above (f start) x start (picked f (start + 1) n) lt (above-picked f n (start + 1) x (omega arith))

rises : (b : Bool) (x : ℕ) (xs : List ℕ) → list_all (ltb x) xs ≡ true → IsRising xs → IsRising (if b then x ∷ xs else xs)
rises true x xs all rest = and_from _ _ all rest
rises false x xs all rest = rest

pub rising-picked : (f : ℕ → Bool) (n start : ℕ) → IsRising (picked f start n)
rising-picked f zero start = refl
rising-picked f (suc n) start = rises (f start) start (picked f (start + 1) n) (above-picked f n (start + 1) start (omega arith)) (rising-picked f n (start + 1))

-- ---- the same test has the same numbers

pub picked-none : (f : ℕ → Bool) (n start : ℕ) → ((k : ℕ) → start ≤ k → f k ≡ false) → picked f start n ≡ []
picked-none f zero start none = refl
picked-none f (suc n) start none =
    ap (λ b. if b then start ∷ picked f (start + 1) n else picked f (start + 1) n) (none start (omega arith))
    ∙ picked-none f n (start + 1) (λ k le. none k (omega arith))

picked-beyond : (f : ℕ → Bool) (n more start : ℕ) → ((k : ℕ) → start + n ≤ k → f k ≡ false) → picked f start (n + more) ≡ picked f start n
picked-beyond f zero more start none = let e : zero + more ≡ more = omega arith in ap (picked f start) e ∙ picked-none f more start (λ k le. none k (omega arith))
picked-beyond f (suc n) more start none =
    let e : suc n + more ≡ suc (n + more) = omega arith in
    ap (picked f start) e
    ∙ ap (λ xs. if f start then start ∷ xs else xs) (picked-beyond f n more (start + 1) (λ k le. none k (omega arith)))

-- where none passes from either of two ends on
pub picked-either : (f : ℕ → Bool) (m n : ℕ) → ((k : ℕ) → m ≤ k → f k ≡ false) → ((k : ℕ) → n ≤ k → f k ≡ false) → picked f 0 m ≡ picked f 0 n
picked-either f m n none_m none_n =
    let e : m + n ≡ n + m = omega arith in
    sym (picked-beyond f m n 0 (λ k le. none_m k (omega arith))) ∙ ap (picked f 0) e ∙ picked-beyond f n m 0 (λ k le. none_n k (omega arith))

-- the first that passes, and those that pass behind it
pub picked-first : (f g : ℕ → Bool) (n start first : ℕ) → start ≤ first → first < start + n → f first ≡ true →
    ((k : ℕ) → k < first → f k ≡ false) → g first ≡ false → ((k : ℕ) → ¬ (k ≡ first) → g k ≡ f k) → picked f start n ≡ first ∷ picked g start n
picked-first f g zero start first le lt is none gone same = absurd (omega arith)
picked-first f g (suc n) start first le lt is none gone same =
    elim (cases_eq start first) [
      | inl e ↦
          ap (λ b. if b then start ∷ picked f (start + 1) n else picked f (start + 1) n) (ap f e ∙ is)
          ∙ ap₂ (λ x xs. x ∷ xs) e (picked-alike f g n (start + 1) (λ k le. sym (same k (λ at. omega (arith, at, e, le)))))
          ∙ ap (λ b. first ∷ (if b then start ∷ picked g (start + 1) n else picked g (start + 1) n)) (sym (ap g e ∙ gone))
      | inr apart ↦
          ap (λ b. if b then start ∷ picked f (start + 1) n else picked f (start + 1) n) (none start (omega arith))
          ∙ picked-first f g n (start + 1) first (omega arith) (omega arith) is none gone same
          ∙ ap (λ b. first ∷ (if b then start ∷ picked g (start + 1) n else picked g (start + 1) n)) (sym (same start apart ∙ none start (omega arith)))
    ]
  where
    picked-alike : (f g : ℕ → Bool) (n start : ℕ) → ((k : ℕ) → start ≤ k → f k ≡ g k) → picked f start n ≡ picked g start n
    picked-alike f g zero start same = refl
    picked-alike f g (suc n) start same =
        ap₂ (λ b xs. if b then start ∷ xs else xs) (same start (omega arith)) (picked-alike f g n (start + 1) (λ k le. same k (omega arith)))

-- ---- how many there are

length-kept : (b : Bool) (x : ℕ) (xs : List ℕ) → length (if b then x ∷ xs else xs) ≡ one_if b + length xs
length-kept true x xs = omega arith
length-kept false x xs = omega arith

pub length-picked : (f : ℕ → Bool) (n start : ℕ) → length (picked f start n) ≡ how_many n (λ k. f (start + k))
unfolding how_many
length-picked f zero start = refl
length-picked f (suc n) start =
    let first : start ≡ start + 0 = omega arith in
    length-kept (f start) start (picked f (start + 1) n)
    ∙ ap₂ (λ b m. one_if b + m) (ap f first)
    (length-picked f n (start + 1) ∙ many-same n _ _ (λ k lt. let e : start + 1 + k ≡ start + suc k = omega arith in ap f e))

filter-filter : (f g : ℕ → Bool) (xs : List ℕ) → filter g (filter f xs) ≡ filter (λ x. f x && g x) xs
filter-filter f g [] = refl
filter-filter f g (x ∷ xs) = both (f x) (filter f xs) (filter-filter f g xs)
  where
    both : (b : Bool) (ys : List ℕ) → filter g ys ≡ filter (λ x. f x && g x) xs →
        filter g (if b then x ∷ ys else ys) ≡ (if b && g x then x ∷ filter (λ x. f x && g x) xs else filter (λ x. f x && g x) xs)
    both true ys e = ap (λ zs. if g x then x ∷ zs else zs) e
    both false ys e = e

pub count-picked : (f g : ℕ → Bool) (n : ℕ) → count_by g (picked f 0 n) ≡ how_many n (λ k. f k && g k)
count-picked f g n =
    sym (length-filter g (picked f 0 n)) ∙ ap length (filter-filter f g (range_with_len 0 n)) ∙ length-picked (λ k. f k && g k) n 0
    ∙ many-same n _ _ (λ k lt. let e : 0 + k ≡ k = omega arith in ap (λ j. f j && g j) e)
