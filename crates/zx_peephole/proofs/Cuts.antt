-- Lists that are cut in two ways.
use Rattle.std.proofs.Common.{◌≡◌, ◌⊎◌, inl, inr, Bool, true, not, List, [], ◌∷◌, ◌++◌, refl, sym, ap, ap₂, ◌∙◌}
use Rattle.std.specs.List.{list_all}
use Rattle.std.proofs.lemmas.Bool.{and_parts, and_from, both_ways, not-true}
use Rattle.std.proofs.lemmas.List.{append-nil}
use Rattle.std.proofs.lemmas.List.Folds.{list_all-append}

-- the second cut is in the first part, or in the second one
pub record IsCutBefore {A : Type 0} (xs ys us vs : List A) (u : A) : Type 0 where
  pub rest : List A
  pub first : xs ≡ us ++ u ∷ rest
  pub second : vs ≡ rest ++ ys

pub record IsCutBehind {A : Type 0} (xs ys us vs : List A) (u : A) : Type 0 where
  pub rest : List A
  pub first : us ≡ xs ++ rest
  pub second : ys ≡ rest ++ u ∷ vs

pub cut_cases : {A : Type 0} (xs ys us vs : List A) (u : A) → xs ++ ys ≡ us ++ u ∷ vs
    → IsCutBefore xs ys us vs u ⊎ IsCutBehind xs ys us vs u
cut_cases [] ys us vs u e = inr (record { rest = us; first = refl; second = e })
cut_cases (x ∷ xs) ys [] vs u e =
    inl (record { rest = xs; first = let h : x ≡ u = cc in ap (λ y. y ∷ xs) h; second = let h : xs ++ ys ≡ vs = cc in sym h })
cut_cases (x ∷ xs) ys (w ∷ us) vs u e =
    let head : x ≡ w = cc in
    let tail : xs ++ ys ≡ us ++ u ∷ vs = cc in
    elim (cut_cases xs ys us vs u tail) [
      | inl c ↦ inl (record { rest = c.rest; first = ap₂ (λ y zs. y ∷ zs) head c.first; second = c.second })
      | inr c ↦ inr (record { rest = c.rest; first = ap₂ (λ y zs. y ∷ zs) (sym head) c.first; second = c.second })
    ]

-- the only cut of a list of one
pub cut_one : {A : Type 0} (x u : A) (us vs : List A) → x ∷ [] ≡ us ++ u ∷ vs → (us ≡ []) × (x ≡ u) × (vs ≡ [])
cut_one x u [] vs e = (refl, (let h : x ≡ u = cc in h), (let h : [] ≡ vs = cc in sym h))
cut_one x u (w ∷ []) vs e = absurd (let h : [] ≡ u ∷ vs = cc in cc)
cut_one x u (w ∷ y ∷ us) vs e = absurd (let h : [] ≡ y ∷ (us ++ u ∷ vs) = cc in cc)

pub cut_none : {A : Type 0} (u : A) (us vs : List A) → [] ≡ us ++ u ∷ vs → ⊥
cut_none u [] vs e = let h : [] ≡ u ∷ vs = e in cc
cut_none u (w ∷ us) vs e = let h : [] ≡ w ∷ (us ++ u ∷ vs) = e in cc

-- ---- what each passes
pub all-append : {A : Type 0} (p : A → Bool) (xs ys : List A) → list_all p xs ≡ true → list_all p ys ≡ true → list_all p (xs ++ ys) ≡ true
all-append p xs ys first second = list_all-append p xs ys ∙ and_from (list_all p xs) (list_all p ys) first second

pub all_parts : {A : Type 0} (p : A → Bool) (xs ys : List A) → list_all p (xs ++ ys) ≡ true → (list_all p xs ≡ true) × (list_all p ys ≡ true)
all_parts p xs ys all = and_parts (list_all p xs) (list_all p ys) (sym (list_all-append p xs ys) ∙ all)

-- one of them
pub all_at : {A : Type 0} (p : A → Bool) (xs ys zs : List A) (y : A) → xs ≡ ys ++ y ∷ zs → list_all p xs ≡ true → p y ≡ true
all_at p xs ys zs y e all = (and_parts (p y) (list_all p zs) (all_parts p ys (y ∷ zs) (ap (list_all p) (sym e) ∙ all)).1).0

-- one more among them
pub all_with : {A : Type 0} (p : A → Bool) (xs ys : List A) (y : A) → list_all p (xs ++ ys) ≡ true → p y ≡ true → list_all p (xs ++ y ∷ ys) ≡ true
all_with p xs ys y all more =
    let each = all_parts p xs ys all in all-append p xs (y ∷ ys) each.0 (and_from (p y) (list_all p ys) more each.1)

pub all_weaker : {A : Type 0} (p q : A → Bool) → ((x : A) → p x ≡ true → q x ≡ true) → (xs : List A) → list_all p xs ≡ true → list_all q xs ≡ true
all_weaker p q weaker [] all = refl
all_weaker p q weaker (x ∷ xs) all =
    let each = and_parts (p x) (list_all p xs) all in
    and_from (q x) (list_all q xs) (weaker x each.0) (all_weaker p q weaker xs each.1)

-- ---- the last one that passes
-- a cut of a list that isn't empty, at its head or behind it
pub record IsCutLater {A : Type 0} (xs us vs : List A) (u : A) : Type 0 where
  pub rest : List A
  pub later : xs ≡ rest ++ u ∷ vs

pub cut_head : {A : Type 0} (x u : A) (xs us vs : List A) → x ∷ xs ≡ us ++ u ∷ vs
    → ((us ≡ []) × (x ≡ u) × (xs ≡ vs)) ⊎ IsCutLater xs us vs u
cut_head x u xs [] vs e = inl (refl, (let h : x ≡ u = cc in h), (let h : xs ≡ vs = cc in h))
cut_head x u xs (w ∷ us) vs e = inr (record { rest = us; later = let h : xs ≡ us ++ u ∷ vs = cc in h })

-- two cuts at the last one that passes are the same
pub last_cut : {A : Type 0} (p : A → Bool) (xs ys us vs : List A) (y u : A) → xs ++ y ∷ ys ≡ us ++ u ∷ vs
    → p y ≡ true → p u ≡ true → list_all (λ x. not (p x)) ys ≡ true → list_all (λ x. not (p x)) vs ≡ true
    → (xs ≡ us) × (y ≡ u) × (ys ≡ vs)
last_cut p xs ys us vs y u e py pu ys_none vs_none =
    elim (cut_cases xs (y ∷ ys) us vs u e) [
      | inl c ↦ absurd (both_ways (p y) (not-true (p y) (all_at (λ x. not (p x)) vs c.rest ys y c.second vs_none)) py)
      | inr c ↦ elim (cut_head y u ys c.rest vs c.second) [
        | inl h ↦ (sym (c.first ∙ ap (λ r. xs ++ r) h.0 ∙ append-nil xs), h.1, h.2)
        | inr h ↦ absurd (both_ways (p u) (not-true (p u) (all_at (λ x. not (p x)) ys h.rest vs u h.later ys_none)) pu)
      ]
    ]
