-- A sorted list of vertices is the order that their ranks tell.
use Rattle.std.proofs.Common.{◌≡◌, ◌≢◌, refl, sym, ◌∙◌, ap, ap₂, subst, ℕ, suc, ◌<◌, ◌≤◌, Bool, true, false, not, ◌&&◌, ◌||◌, eqb, List, [], ◌∷◌, filter, length, get_or, arith, true≢false}
use Rattle.std.specs.List.{list_any, IsDistinct, AllByRecursion}
use Rattle.std.specs.List.Sorted.{IsPermutation, IsNonDecreasingBy}
use Rattle.std.proofs.lemmas.List.Sorted.{list_any-IsPermutation}
use Rattle.std.proofs.lemmas.Map.Keys.{IsDistinct-IsPermutation}
use Rattle.zx_model.specs.Bits.{member}
use Rattle.zx_calculus.specs.Graph.{Graph, Distinct, WellFormed}
use Rattle.zx_calculus.proofs.Ids.{by_test, by_equal, eqb_comm, member-here, member-there, member-filter, or-left, or-right, apart_of_member}
use Rattle.zx_calculus.proofs.Splitting.{distinct}
use Rattle.gflow_laws.specs.Seen.{seen}
use Rattle.move_laws.specs.Orders.{HasFlowAlong}
use Rattle.move_laws.specs.Ranks.{RisesBy, HasFlowBy}
use Rattle.flow_find.proofs.Orders.{is_order}

-- membership as std has it
member-any : (w : ℕ) (vs : List ℕ) → member w vs ≡ list_any (eqb w) vs
member-any w [] = refl
member-any w (v ∷ vs) = ap (λ b. eqb w v || b) (member-any w vs)

apart-from : (v : ℕ) (vs : List ℕ) → member v vs ≡ false → AllByRecursion (λ w. eqb v w ≡ false) vs
apart-from v [] out = tt
apart-from v (x ∷ xs) out = (or-left _ _ out, apart-from v xs (or-right _ _ out))

out-of : (v : ℕ) (vs : List ℕ) → AllByRecursion (λ w. eqb v w ≡ false) vs → member v vs ≡ false
out-of v [] apart = refl
out-of v (x ∷ xs) apart = ap₂ (λ a b. a || b) apart.0 (out-of v xs apart.1)

IsDistinct-from : (vs : List ℕ) → Distinct vs → IsDistinct eqb vs
unfolding IsDistinct
IsDistinct-from [] d = tt
IsDistinct-from (v ∷ vs) d = (apart-from v vs d.0, IsDistinct-from vs d.1)

Distinct-from : (vs : List ℕ) → IsDistinct eqb vs → Distinct vs
unfolding IsDistinct
Distinct-from [] d = tt
Distinct-from (v ∷ vs) d = (out-of v vs d.0, Distinct-from vs d.1)

out_of_filter : (t : ℕ → Bool) (v : ℕ) (vs : List ℕ) → member v vs ≡ false → member v (filter t vs) ≡ false
out_of_filter t v vs out = member-filter t vs v ∙ ap (λ b. b && t v) out

Distinct-filter : (t : ℕ → Bool) (vs : List ℕ) → Distinct vs → Distinct (filter t vs)
Distinct-filter t [] d = tt
Distinct-filter t (v ∷ vs) d = by_test (t v) (λ s. rw s (out_of_filter t v vs d.0, Distinct-filter t vs d.1)) (λ f. rw f (Distinct-filter t vs d.1))

-- where ranks rise, vertices that differ have ranks that differ
apart : (rank : ℕ → ℕ) (vs : List ℕ) (v w : ℕ) → RisesBy rank vs → member v vs ≡ true → member w vs ≡ true → v ≢ w → rank v ≢ rank w
apart rank [] v w rises there too ne e = true≢false (sym there)
apart rank (x ∷ xs) v w rises there too ne e =
    by_equal v x
    (λ t at. by_equal w x
    (λ _ same. ne (at ∙ sym same))
    (λ n _. let below : rank x < rank w = rises.0 w (sym (ap (λ b. b || member w xs) n) ∙ too) in
    let equal : rank x ≡ rank w = sym (ap rank at) ∙ e in absurd (omega arith)))
    (λ n _. let behind : member v xs ≡ true = sym (ap (λ b. b || member v xs) n) ∙ there in
    by_equal w x
    (λ _ at. let below : rank x < rank v = rises.0 v behind in
    let equal : rank v ≡ rank x = e ∙ ap rank at in absurd (omega arith))
    (λ m _. apart rank xs v w rises.1 behind (sym (ap (λ b. b || member w xs) m) ∙ too) ne e))

at_least : (rank : ℕ → ℕ) (n : ℕ) (vs : List ℕ) (w : ℕ) → ((j : ℕ) → j < length vs → n ≤ rank (get_or vs j 0)) → member w vs ≡ true → n ≤ rank w
at_least rank n [] w low there = absurd (true≢false (sym there))
at_least rank n (v ∷ vs) w low there =
    by_equal w v
    (λ t e. subst (λ x. n ≤ rank x) (sym e) (low 0 (omega arith)))
    (λ f ne. at_least rank n vs w (λ j lt. low (suc j) (omega arith)) (sym (ap (λ b. b || member w vs) f) ∙ there))

-- ranks that don't fall rise, where no vertex stands twice and ranks differ
rises-from : (rank : ℕ → ℕ) (all vs : List ℕ) → RisesBy rank all → ((w : ℕ) → member w vs ≡ true → member w all ≡ true) → Distinct vs → IsNonDecreasingBy rank vs → RisesBy rank vs
rises-from rank all [] rises within d sorted = tt
rises-from rank all (v ∷ vs) rises within d sorted = (
  (λ w there.
      let low : rank v ≤ rank w = at_least rank (rank v) vs w (λ j lt. sorted 0 (suc j) 0 (omega arith) (omega arith)) there in
      let other : rank v ≢ rank w = apart rank all v w rises (within v (member-here v vs)) (within w (member-there w v vs there)) (λ e. apart_of_member w v vs there d.0 (sym e)) in
      omega arith),
  rises-from rank all vs rises (λ w there. within w (member-there w v vs there)) d.1 (λ i j x le lt. sorted (suc i) (suc j) x (omega arith) (omega arith)),
)

first_is_out : (rank : ℕ → ℕ) (v : ℕ) (vs : List ℕ) → RisesBy rank (v ∷ vs) → member v vs ≡ false
first_is_out rank v vs rises = by_test (member v vs) (λ t. let below : rank v < rank v = rises.0 v t in absurd (omega arith)) (λ f. f)

-- lists with the same members along which ranks rise are equal
rises_ext : (rank : ℕ → ℕ) (xs ys : List ℕ) → RisesBy rank xs → RisesBy rank ys → ((w : ℕ) → member w xs ≡ member w ys) → xs ≡ ys
rises_ext rank [] [] rx ry same = refl
rises_ext rank [] (y ∷ ys) rx ry same = absurd (true≢false (sym (member-here y ys) ∙ sym (same y)))
rises_ext rank (x ∷ xs) [] rx ry same = absurd (true≢false (sym (member-here x xs) ∙ same x))
rises_ext rank (x ∷ xs) (y ∷ ys) rx ry same =
    ap₂ (λ a l. a ∷ l) first (rises_ext rank xs ys rx.1 ry.1 rest)
  where
    first : x ≡ y
    first = by_equal x y (λ t e. e)
        (λ n ne. let up : rank y < rank x = ry.0 x (sym (ap (λ b. b || member x ys) n) ∙ sym (same x) ∙ member-here x xs) in
        let down : rank x < rank y = rx.0 y (sym (ap (λ b. b || member y xs) (eqb_comm y x ∙ n)) ∙ same y ∙ member-here y ys) in
        absurd (omega arith))

    rest : (w : ℕ) → member w xs ≡ member w ys
    rest w = by_equal w x
        (λ t e. ap (λ v. member v xs) e ∙ first_is_out rank x xs rx ∙ sym (ap (λ v. member v ys) (e ∙ first) ∙ first_is_out rank y ys ry))
        (λ f n. ap (λ b. b || member w xs) (sym f) ∙ same w ∙ ap (λ v. eqb w v || member w ys) (sym first) ∙ ap (λ b. b || member w ys) f)

-- the vertices without outputs, sorted by rank, are the order
pub sorted_is_order : (g : Graph) (rank : ℕ → ℕ) (low high : ℕ) (order : List ℕ) → WellFormed g → HasFlowBy g rank low high →
    IsPermutation (filter (λ v. not ((seen g).output v)) (seen g).ids) order → IsNonDecreasingBy rank order → HasFlowAlong g order
sorted_is_order g rank low high order formed f permutation sorted =
    subst (HasFlowAlong g) (sym (rises_ext rank order f.order (rises-from rank f.order order f.rises (λ w there. sym (same w) ∙ there) once sorted) f.rises same)) f.flow
  where
    outside : ℕ → Bool
    outside v = not ((seen g).output v)

    same : (w : ℕ) → member w order ≡ member w f.order
    same w = member-any w order ∙ sym (list_any-IsPermutation (eqb w) (filter outside (seen g).ids) order permutation) ∙ sym (member-any w (filter outside (seen g).ids))
        ∙ member-filter outside (seen g).ids w ∙ sym ((is_order g f.order f.flow).non_outputs w)

    once : Distinct order
    once = Distinct-from order (IsDistinct-IsPermutation eqb eqb_comm (filter outside (seen g).ids) order permutation
        (IsDistinct-from (filter outside (seen g).ids) (Distinct-filter outside (seen g).ids (distinct g formed))))
