-- Sets toggled id by id, and what two sets have in common.
use Rattle.std.proofs.Common.{◌≡◌, refl, sym, ◌∙◌, ap, subst, ℕ, suc, ◌<◌, Bool, true, false, cond, not, eqb, List, [], ◌∷◌, length, get_or, drop, drop-cons, filter}
use Rattle.std.specs.Prelude.{count_by}
use Rattle.std.proofs.lemmas.List.Sums.{length-filter}
use Rattle.zx_model.specs.Bits.{xor, member}
use Rattle.zx_calculus.specs.Graph.{Distinct}
use Rattle.zx_calculus.proofs.Booleans.{parities}
use Rattle.zx_calculus.proofs.Ids.{by_test, by_equal, eqb_comm}

-- one of different ids, and then the rest
member-first : (x : ℕ) (xs : List ℕ) (w : ℕ) → member x xs ≡ false → member w (x ∷ xs) ≡ xor (eqb w x) (member w xs)
member-first x xs w fresh = by_equal w x (λ t e. rw t (sym (ap not (ap (λ u. member u xs) e ∙ fresh)))) (λ f n. rw f refl)

regrouped : (now here rest : Bool) → xor (xor now here) rest ≡ xor now (xor here rest)
regrouped now here rest = simp parities

pub toggled_next : (now new : ℕ → Bool) (x : ℕ) (xs : List ℕ) (w : ℕ) (all : Bool) → member x xs ≡ false → new w ≡ xor (now w) (eqb w x) → xor (now w) (member w (x ∷ xs)) ≡ all → xor (new w) (member w xs) ≡ all
toggled_next now new x xs w all fresh step before =
    ap (λ b. xor b (member w xs)) step ∙ regrouped (now w) (eqb w x) (member w xs) ∙ ap (xor (now w)) (sym (member-first x xs w fresh)) ∙ before

-- one more id is toggled
pub toggled_more : (ids : List ℕ) (i x : ℕ) (old now new : List ℕ) → i < length ids → x ≡ get_or ids i x → Distinct (drop i ids) →
    ((w : ℕ) → xor (member w now) (member w (drop i ids)) ≡ xor (member w old) (member w ids)) → ((w : ℕ) → member w new ≡ xor (member w now) (eqb w x)) →
    Distinct (drop (suc i) ids) × ((w : ℕ) → xor (member w new) (member w (drop (suc i) ids)) ≡ xor (member w old) (member w ids))
toggled_more ids i x old now new lt is differ toggled step =
    let split : drop i ids ≡ x ∷ drop (suc i) ids = drop-cons ids i x lt ∙ ap (λ y. y ∷ drop (suc i) ids) (sym is) in
    let parts : Distinct (x ∷ drop (suc i) ids) = subst Distinct split differ in (
      parts.1,
      λ w. toggled_next (λ u. member u now) (λ u. member u new) x (drop (suc i) ids) w (xor (member w old) (member w ids)) parts.0 (step w)
          (ap (λ l. xor (member w now) (member w l)) (sym split) ∙ toggled w),
    )

-- how many of xs are among ys
abbrev common : List ℕ → List ℕ → ℕ
common xs ys = length (filter (λ z. member z ys) xs)

-- one more id in the second list
common_more : (y : ℕ) (xs ys : List ℕ) → Distinct xs → member y ys ≡ false → common xs (y ∷ ys) ≡ cond (member y xs) (suc (common xs ys)) (common xs ys)
common_more y [] ys d fresh = refl
common_more y (x ∷ xs) ys d fresh =
    let rest = common_more y xs ys d.1 fresh in
    by_equal y x
    (λ t e. let same : eqb x y ≡ true = eqb_comm x y ∙ t in
    let out : member x ys ≡ false = ap (λ z. member z ys) (sym e) ∙ fresh in
    let once : member y xs ≡ false = ap (λ z. member z xs) e ∙ d.0 in
    rw (t, same, out) (ap suc (rest ∙ ap (λ b. cond b (suc (common xs ys)) (common xs ys)) once)))
    (λ f n. let apart : eqb x y ≡ false = eqb_comm x y ∙ f in
    rw (f, apart) (by_test (member x ys) (λ t. rw t (ap suc rest ∙ beside (member y xs) (common xs ys))) (λ t. rw t rest)))
  where
    beside : (b : Bool) (k : ℕ) → suc (cond b (suc k) k) ≡ cond b (suc (suc k)) (suc k)
    beside true k = refl
    beside false k = refl

common_none : (xs : List ℕ) → common xs [] ≡ 0
common_none [] = refl
common_none (x ∷ xs) = common_none xs

common_either : (xs ys : List ℕ) → Distinct xs → Distinct ys → common xs ys ≡ common ys xs
common_either xs [] dx dy = common_none xs
common_either xs (y ∷ ys) dx dy =
    common_more y xs ys dx dy.0 ∙ by_test (member y xs) (λ t. rw t (ap suc (common_either xs ys dx dy.1))) (λ f. rw f (common_either xs ys dx dy.1))

-- what two lists have in common can be counted in either
pub count-either : (xs ys : List ℕ) → Distinct xs → Distinct ys → count_by (λ z. member z ys) xs ≡ count_by (λ z. member z xs) ys
count-either xs ys dx dy = sym (length-filter (λ z. member z ys) xs) ∙ common_either xs ys dx dy ∙ length-filter (λ z. member z xs) ys
