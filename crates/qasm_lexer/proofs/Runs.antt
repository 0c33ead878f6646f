-- The bytes at the start of a list that pass a test, and what follows them.
use Rattle.std.proofs.Common.{◌≡◌, ℕ, ◌+◌, ◌<◌, ◌≤◌, Bool, true, false, cond, List, [], ◌∷◌, ◌++◌, length, take, drop, refl, sym, ap, ◌∙◌, arith, inl, inr}
use Rattle.std.specs.List.{list_all, prefix_len}
use Rattle.std.proofs.lemmas.Bool.{false≢true, and_parts, and_from, cases_Bool}
use Rattle.std.proofs.lemmas.List.{take_at, drop_at}
use Rattle.qasm_lexer.specs.Forms.{following, begins}

abbrev pub prefix : (ℕ → Bool) → List ℕ → List ℕ
prefix test [] = []
prefix test (b ∷ rest) = cond (test b) (b ∷ prefix test rest) []

module _ (test : ℕ → Bool) where
  pub prefix-following : (t : List ℕ) → prefix test t ++ following test t ≡ t
  prefix-following [] = refl
  prefix-following (b ∷ rest) = elim (cases_Bool (test b)) [
    | inl e ↦ rw e (ap (λ r. b ∷ r) (prefix-following rest))
    | inr e ↦ rw e refl
  ]

  pub prefix_len-prefix : (t : List ℕ) → prefix_len test t ≡ length (prefix test t)
  prefix_len-prefix [] = refl
  prefix_len-prefix (b ∷ rest) = elim (cases_Bool (test b)) [
    | inl e ↦ rw e (omega (arith, prefix_len-prefix rest))
    | inr e ↦ rw e refl
  ]

  pub take-prefix : (t : List ℕ) → take (prefix_len test t) t ≡ prefix test t
  take-prefix t =
      ap (λ r. take (prefix_len test t) r) (sym (prefix-following t)) ∙ take_at (prefix test t) (following test t) (prefix_len test t) (sym (prefix_len-prefix t))

  pub drop-following : (t : List ℕ) → drop (prefix_len test t) t ≡ following test t
  drop-following t =
      ap (λ r. drop (prefix_len test t) r) (sym (prefix-following t)) ∙ drop_at (prefix test t) (following test t) (prefix_len test t) (sym (prefix_len-prefix t))

  pub prefix_passes : (t : List ℕ) → list_all test (prefix test t) ≡ true
  prefix_passes [] = refl
  prefix_passes (b ∷ rest) = elim (cases_Bool (test b)) [
    | inl e ↦ rw e (and_from (test b) (list_all test (prefix test rest)) e (prefix_passes rest))
    | inr e ↦ rw e refl
  ]

  pub after_stops : (t : List ℕ) → begins test (following test t) ≡ false
  after_stops [] = refl
  after_stops (b ∷ rest) = elim (cases_Bool (test b)) [
    | inl e ↦ rw e (after_stops rest)
    | inr e ↦ rw e e
  ]

  -- a run that passes, and what follows it
  pub prefix_len_through : (a t : List ℕ) → list_all test a ≡ true → prefix_len test (a ++ t) ≡ length a + prefix_len test t
  prefix_len_through [] t e = omega arith
  prefix_len_through (b ∷ a) t e =
      let p : (test b ≡ true) × (list_all test a ≡ true) = and_parts (test b) (list_all test a) e in
      rw p.0 (omega (arith, prefix_len_through a t p.1))

  pub after_through : (a t : List ℕ) → list_all test a ≡ true → following test (a ++ t) ≡ following test t
  after_through [] t e = refl
  after_through (b ∷ a) t e =
      let p : (test b ≡ true) × (list_all test a ≡ true) = and_parts (test b) (list_all test a) e in
      rw p.0 (after_through a t p.1)

  pub after_stopped : (t : List ℕ) → begins test t ≡ false → following test t ≡ t
  after_stopped [] e = refl
  after_stopped (b ∷ rest) e = rw e refl

  pub after_all : (a : List ℕ) → list_all test a ≡ true → following test a ≡ []
  after_all [] e = refl
  after_all (b ∷ a) e =
      let p : (test b ≡ true) × (list_all test a ≡ true) = and_parts (test b) (list_all test a) e in
      rw p.0 (after_all a p.1)

  -- no run that passes is longer than the prefix
  pub run_longest : (a back : List ℕ) → list_all test a ≡ true → length a ≤ prefix_len test (a ++ back)
  run_longest a back e = omega (arith, prefix_len_through a back e)

  pub begins_append : (a t : List ℕ) → begins test a ≡ true → begins test (a ++ t) ≡ true
  begins_append [] t e = absurd (false≢true e)
  begins_append (b ∷ a) t e = e

  pub begins_some : (t : List ℕ) → begins test t ≡ true → 0 < prefix_len test t
  begins_some [] e = absurd (false≢true e)
  begins_some (b ∷ rest) e = rw e (omega arith)

  pub begins_prefix : (t : List ℕ) → begins test t ≡ true → begins test (prefix test t) ≡ true
  begins_prefix [] e = absurd (false≢true e)
  begins_prefix (b ∷ rest) e = rw e e
