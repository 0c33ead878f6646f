-- The least number that isn't in a rising list.
use Rattle.std.proofs.Common.{◌≡◌, refl, sym, ◌∙◌, ap, ℕ, suc, ◌<◌, ◌≤◌, true, false, ◌||◌, eqb, ltb, leb, List, [], ◌∷◌, true≢false, ne_eqb, le-leb, leb-true, ltb-true, ltb-false, arith}
use Rattle.std.specs.List.{list_all}
use Rattle.zx_model.specs.Bits.{member}
use Rattle.zx_calculus.specs.Graph.{in_order}
use Rattle.zx_calculus.specs.Splits.{least_free, least_free_from}
use Rattle.zx_calculus.proofs.Booleans.{or-true}
use Rattle.zx_calculus.proofs.Ids.{by_test, by_equal, and-left, and-right, member-below}
use Rattle.zx_calculus.proofs.Kept.{all_by, below_all}

not_before : (n : ℕ) (ids : List ℕ) → n ≤ least_free_from n ids
not_before n [] = omega arith
not_before n (i ∷ is) =
    by_equal n i
    (λ t e. let after : suc n ≤ least_free_from (suc n) is = not_before (suc n) is in rw t (omega (arith, after)))
    (λ f apart. rw f (omega arith))

fresh_from : (n : ℕ) (ids : List ℕ) → list_all (leb n) ids ≡ true → in_order ltb ids ≡ true → member (least_free_from n ids) ids ≡ false
fresh_from n [] above rising = refl
fresh_from n (i ∷ is) above rising =
    by_equal n i
    (λ t e. let after : suc n ≤ least_free_from (suc n) is = not_before (suc n) is in
    let rest : list_all (ltb n) is ≡ true = ap (λ m. list_all (ltb m) is) e ∙ and-left _ _ rising in
    let same : least_free_from n (i ∷ is) ≡ least_free_from (suc n) is = rw t refl in
    let apart : eqb (least_free_from (suc n) is) i ≡ false = ne_eqb _ i (omega (arith, after, e)) in
    ap (λ m. member m (i ∷ is)) same ∙ ap (λ b. b || member (least_free_from (suc n) is) is) apart
    ∙ fresh_from (suc n) is rest (and-right _ _ rising))
    (λ f apart. let le : n ≤ i = leb-true n i (and-left _ _ above) in
    let here : least_free_from n (i ∷ is) ≡ n = rw f refl in
    ap (λ m. member m (i ∷ is)) here ∙ ap (λ b. b || member n is) f
    ∙ member-below n is (below_all n i is (omega (arith, le, apart)) (and-left _ _ rising)))

below_from : (n : ℕ) (ids : List ℕ) (q : ℕ) → n ≤ q → q < least_free_from n ids → member q ids ≡ true
below_from n [] q le lt = absurd (omega (arith, le, lt))
below_from n (i ∷ is) q le lt =
    by_equal n i
    (λ t e. let below : q < least_free_from (suc n) is = rw t at lt in
    by_equal q i
    (λ s same. rw s refl)
    (λ f apart. ap (λ b. eqb q i || b) (below_from (suc n) is q (omega (arith, le, apart, e)) below) ∙ or-true (eqb q i)))
    (λ f apart. let below : q < n = rw f at lt in absurd (omega (arith, le, below)))

pub least_free-fresh : (ids : List ℕ) → in_order ltb ids ≡ true → member (least_free ids) ids ≡ false
least_free-fresh ids rising = fresh_from 0 ids (all_by (leb 0) ids (λ x there. le-leb 0 x (omega arith))) rising

pub least_free-below : (ids : List ℕ) → in_order ltb ids ≡ true → (q : ℕ) → q < least_free ids → member q ids ≡ true
least_free-below ids rising q lt = below_from 0 ids q (omega arith) lt

pub least_free-unique : (ids : List ℕ) (v : ℕ) → in_order ltb ids ≡ true → member v ids ≡ false → ((q : ℕ) → q < v → member q ids ≡ true) → v ≡ least_free ids
least_free-unique ids v rising absent below =
    by_test (ltb v (least_free ids))
    (λ t. absurd (true≢false (sym (least_free-below ids rising v (ltb-true v (least_free ids) t)) ∙ absent)))
    (λ f. let le : least_free ids ≤ v = ltb-false v (least_free ids) f in
    by_test (ltb (least_free ids) v)
    (λ t. absurd (true≢false (sym (below (least_free ids) (ltb-true (least_free ids) v t)) ∙ least_free-fresh ids rising)))
    (λ g. let back : v ≤ least_free ids = ltb-false (least_free ids) v g in omega (arith, le, back)))
