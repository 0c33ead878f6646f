-- Walks over lists, as far as they have come.
use Rattle.std.proofs.Common.{Option, Some, None, ◌≡◌, ◌⊎◌, inl, inr, refl, sym, ◌∙◌, ap, subst, ℕ, Bool, true, false, ◌||◌, eqb, List, [], ◌∷◌, ◌++◌, append_assoc, append-nil, eqb-true, true≢false}
use Rattle.std.specs.Iterator.{YieldsFirst}
use Rattle.zx_model.specs.Bits.{xor, member}
use Rattle.zx_calculus.specs.Graph.{Distinct}
use Rattle.zx_calculus.proofs.Booleans.{or-true, or-false, xor-false}
use Rattle.zx_calculus.proofs.Ids.{by_test, by_equal, eqb-self}

-- what a call of `next` says, by its answer
pub next_some : (r : Option ℕ) (s t : List ℕ) (u : ℕ) → YieldsFirst (λ rest. rest) s r t → r ≡ Some u → s ≡ u ∷ t
next_some r s t u h e = rw e at h

pub next_none : (r : Option ℕ) (s t : List ℕ) → YieldsFirst (λ rest. rest) s r t → r ≡ None → s ≡ []
next_none r s t h e = (rw e at h).0

pub member-middle : (before after : List ℕ) (u : ℕ) → member u (before ++ u ∷ after) ≡ true
member-middle [] after u = ap (λ b. b || member u after) (eqb-self u)
member-middle (x ∷ xs) after u = ap (λ b. eqb u x || b) (member-middle xs after u) ∙ or-true (eqb u x)

pub member-last : (xs : List ℕ) (u p : ℕ) → member p (xs ++ u ∷ []) ≡ true → (p ≡ u) ⊎ (member p xs ≡ true)
member-last [] u p h = inl (eqb-true p u (sym (or-false (eqb p u)) ∙ h))
member-last (x ∷ xs) u p h =
    by_test (eqb p x)
    (λ t. inr (ap (λ b. b || member p xs) t))
    (λ f. elim (member-last xs u p (sym (ap (λ b. b || member p (xs ++ u ∷ [])) f) ∙ h)) [
      | inl e ↦ inl e
      | inr m ↦ inr (ap (λ b. eqb p x || b) m ∙ or-true (eqb p x))
    ])

-- the vertex that comes next is one of all
pub next_there : (before rest after all : List ℕ) (u : ℕ) → before ++ rest ≡ all → rest ≡ u ∷ after → member u all ≡ true
next_there before rest after all u e f =
    let whole : all ≡ before ++ u ∷ after = sym e ∙ ap (λ xs. before ++ xs) f in
    ap (member u) whole ∙ member-middle before after u

pub next_all : (before rest after all : List ℕ) (u : ℕ) → before ++ rest ≡ all → rest ≡ u ∷ after → (before ++ u ∷ []) ++ after ≡ all
next_all before rest after all u e f = append_assoc before (u ∷ []) after ∙ sym (ap (λ xs. before ++ xs) f) ∙ e

pub next_passed : (P : ℕ → Type 0) (before : List ℕ) (u : ℕ) → ((p : ℕ) → member p before ≡ true → P p) → P u → (p : ℕ) → member p (before ++ u ∷ []) ≡ true → P p
next_passed P before u passed here p m =
    elim (member-last before u p m) [ inl e ↦ subst P (sym e) here | inr b ↦ passed p b ]

-- all have come
pub all_passed : (P : ℕ → Type 0) (before rest all : List ℕ) → before ++ rest ≡ all → rest ≡ [] → ((p : ℕ) → member p before ≡ true → P p) → (p : ℕ) → member p all ≡ true → P p
all_passed P before rest all e f passed p m =
    let whole : all ≡ before = sym e ∙ ap (λ xs. before ++ xs) f ∙ append-nil before in
    passed p (sym (ap (member p) whole) ∙ m)

-- membership in one more of a list
pub member-more : (xs : List ℕ) (u p : ℕ) → member p (xs ++ u ∷ []) ≡ (eqb p u || member p xs)
member-more [] u p = refl
member-more (x ∷ xs) u p = ap (λ b. eqb p x || b) (member-more xs u p) ∙ or_swap (eqb p x) (eqb p u) (member p xs)
  where
    or_swap : (a b c : Bool) → (a || (b || c)) ≡ (b || (a || c))
    or_swap true true c = refl
    or_swap true false c = refl
    or_swap false b c = refl

pub absent_before : (before after : List ℕ) (u : ℕ) → Distinct (before ++ u ∷ after) → member u before ≡ false
absent_before [] after u d = refl
absent_before (x ∷ xs) after u d =
    by_equal u x
    (λ t e. absurd (true≢false (sym (member-middle xs after u) ∙ ap (λ w. member w (xs ++ u ∷ after)) e ∙ d.0)))
    (λ f n. rw f (absent_before xs after u d.1))

-- where all differ, one more toggles its membership
pub member-toggled : (before rest after all : List ℕ) (u p : ℕ) → Distinct all → before ++ rest ≡ all → rest ≡ u ∷ after →
    member p (before ++ u ∷ []) ≡ xor (member p before) (eqb p u)
member-toggled before rest after all u p d e f =
    let whole : before ++ u ∷ after ≡ all = sym (ap (λ xs. before ++ xs) f) ∙ e in
    let absent : member u before ≡ false = absent_before before after u (subst Distinct (sym whole) d) in
    member-more before u p
    ∙ by_equal p u
    (λ t e. rw t (sym (ap (λ b. xor b true) (ap (λ w. member w before) e ∙ absent))))
    (λ f n. rw f (sym (xor-false (member p before))))
