-- Lists of ids in rising order: an id found, inserted and removed.
use Rattle.std.proofs.Common.{◌≡◌, refl, sym, ◌∙◌, ap, ℕ, suc, ◌<◌, ◌≤◌, Bool, true, false, not, ◌||◌, ◌&&◌, eqb, ltb, leb, List, [], ◌∷◌, Option, Some, None, IfSome, true≢false, ltb-true, ltb-false, lt-ltb, leb-true, le-leb, arith}
use Rattle.std.specs.List.{list_all}
use Rattle.zx_model.specs.Bits.{xor, member}
use Rattle.zx_calculus.specs.Graph.{Graph, in_order, joined, IsVertex, WellFormed}
use Rattle.zx_calculus.proofs.Booleans.{xor-false, or-false, and-false, and-true}
use Rattle.zx_calculus.proofs.Ids.{by_test, by_equal, and-left, and-right, or-left, or-right, eqb-self, member-here, member-filter, removed, removed-absent, member-removed, member-removed_other}
use Rattle.zx_calculus.proofs.Kept.{both, in_order-removed}
use Rattle.zx_calculus.proofs.Extensionality.{rising_ext, in_order-filter}
use Rattle.zx_calculus.proofs.Toggling.{member-neighbours, neighbour_live}
use Rattle.zx_bits.specs.Sets.{IsRising, IsBelow}
use Rattle.zx_bits.specs.Rows.{IsFirstFrom}
use Rattle.open_graph.specs.Internal.Rows.{inserted, not_below}

-- what a row of bits calls rising
pub in_order-rising : (xs : List ℕ) → IsRising xs → in_order ltb xs ≡ true
in_order-rising [] rises = refl
in_order-rising (x ∷ xs) rises = both _ _ (and-left _ _ rises) (in_order-rising xs (and-right _ _ rises))

-- a list below a bound, under other names of both
pub below_too : {xs ys : List ℕ} {room bound : ℕ} → room ≡ bound → ys ≡ xs → IsBelow bound xs → IsBelow room ys
below_too is same below = λ x there. let lt = below x (ap (member x) (sym same) ∙ there) in omega (arith, is, lt)

pub member-inserted : (q v : ℕ) (xs : List ℕ) → member q (inserted v xs) ≡ (eqb q v || member q xs)
member-inserted q v [] = refl
member-inserted q v (x ∷ xs) =
    by_test (ltb v x) (λ t. rw t refl) (λ f. rw f (ap (λ b. eqb q x || b) (member-inserted q v xs) ∙ or_swap (eqb q x) (eqb q v) (member q xs)))
  where
    or_swap : (a b c : Bool) → (a || (b || c)) ≡ (b || (a || c))
    or_swap true true c = refl
    or_swap true false c = refl
    or_swap false b c = refl

below_all : (p q : ℕ) (xs : List ℕ) → p < q → list_all (ltb q) xs ≡ true → list_all (ltb p) xs ≡ true
below_all p q [] lt h = refl
below_all p q (x ∷ xs) lt h =
    let there : q < x = ltb-true q x (and-left _ _ h) in both _ _ (lt-ltb p x (omega arith)) (below_all p q xs lt (and-right _ _ h))

list_all-inserted : (t : ℕ → Bool) (v : ℕ) (xs : List ℕ) → t v ≡ true → list_all t xs ≡ true → list_all t (inserted v xs) ≡ true
list_all-inserted t v [] here h = both _ _ here refl
list_all-inserted t v (x ∷ xs) here h =
    by_test (ltb v x) (λ s. rw s (both _ _ here h)) (λ f. rw f (both _ _ (and-left _ _ h) (list_all-inserted t v xs here (and-right _ _ h))))

pub in_order-inserted : (v : ℕ) (xs : List ℕ) → member v xs ≡ false → in_order ltb xs ≡ true → in_order ltb (inserted v xs) ≡ true
in_order-inserted v [] fresh o = refl
in_order-inserted v (x ∷ xs) fresh o =
    by_test (ltb v x)
    (λ t. rw t (both _ _ (both _ _ t (below_all v x xs (ltb-true v x t) (and-left _ _ o))) o))
    (λ f. rw f
    (by_equal v x (λ t e. absurd (true≢false (sym t ∙ or-left _ _ fresh)))
    (λ g n. let le : x ≤ v = ltb-false v x f in
    both _ _ (list_all-inserted (ltb x) v xs (lt-ltb x v (omega arith)) (and-left _ _ o)) (in_order-inserted v xs (or-right _ _ fresh) (and-right _ _ o)))))

-- where v stands in a row, taking it out toggles it; where it doesn't, inserting it does
pub removed_toggles : (v : ℕ) (xs : List ℕ) → member v xs ≡ true → (q : ℕ) → member q (removed v xs) ≡ xor (member q xs) (eqb q v)
removed_toggles v xs there q =
    by_equal q v
    (λ t e. rw t (ap (λ w. member w (removed v xs)) e ∙ member-removed v xs ∙ sym (ap (λ b. xor b true) (ap (λ w. member w xs) e ∙ there))))
    (λ f n. rw f (member-removed_other q v xs n ∙ sym (xor-false (member q xs))))

pub inserted_toggles : (v : ℕ) (xs : List ℕ) → member v xs ≡ false → (q : ℕ) → member q (inserted v xs) ≡ xor (member q xs) (eqb q v)
inserted_toggles v xs absent q =
    member-inserted q v xs
    ∙ by_equal q v (λ t e. rw t (sym (ap (λ b. xor b true) (ap (λ w. member w xs) e ∙ absent)))) (λ f n. rw f (sym (xor-false (member q xs))))

pub removed-inserted : (v : ℕ) (xs : List ℕ) → member v xs ≡ false → removed v (inserted v xs) ≡ xs
removed-inserted v [] absent = rw (eqb-self v) refl
removed-inserted v (x ∷ xs) absent =
    let apart : eqb v x ≡ false = or-left _ _ absent in
    by_test (ltb v x) (λ t. rw (t, eqb-self v) (removed-absent v (x ∷ xs) absent)) (λ f. rw (f, apart) (ap (λ r. x ∷ r) (removed-inserted v xs (or-right _ _ absent))))

-- rows by their members
pub toggled_in : (v : ℕ) (xs ys : List ℕ) → member v xs ≡ false → in_order ltb xs ≡ true → IsRising ys →
    ((q : ℕ) → member q ys ≡ xor (member q xs) (eqb q v)) → ys ≡ inserted v xs
toggled_in v xs ys absent o rises tells =
    rising_ext ys (inserted v xs) (in_order-rising ys rises) (in_order-inserted v xs absent o) (λ q. tells q ∙ sym (inserted_toggles v xs absent q))

pub taken_out : (v : ℕ) (xs ys : List ℕ) → in_order ltb xs ≡ true → IsRising ys →
    ((q : ℕ) → member q ys ≡ (member q xs && not (eqb q v))) → ys ≡ removed v xs
taken_out v xs ys o rises tells =
    rising_ext ys (removed v xs) (in_order-rising ys rises) (in_order-removed v xs o)
    (λ q. tells q
    ∙ by_equal q v
    (λ t e. rw t (and-false (member q xs) ∙ sym (ap (λ w. member w (removed v xs)) e ∙ member-removed v xs)))
    (λ f n. rw f (and-true (member q xs) ∙ sym (member-removed_other q v xs n))))

pub only_one : (v : ℕ) (ys : List ℕ) → in_order ltb ys ≡ true → ((q : ℕ) → member q ys ≡ xor false (eqb q v)) → ys ≡ v ∷ []
only_one v ys o tells = rising_ext ys (v ∷ []) o refl (λ q. tells q ∙ sym (or-false (eqb q v)))

all_above : (first : ℕ) (xs : List ℕ) → list_all (ltb first) (not_below (suc first) xs) ≡ true
all_above first [] = refl
all_above first (x ∷ xs) =
    by_test (leb (suc first) x)
    (λ t. rw t (both _ _ (lt-ltb first x (ltb-true first x t)) (all_above first xs)))
    (λ f. rw f (all_above first xs))

-- those that are no less than a number begin with the first, if there is one
pub first_is_next : (start first : ℕ) (xs : List ℕ) → in_order ltb xs ≡ true → IsFirstFrom (λ n. member n xs) start (Some first) →
    not_below start xs ≡ first ∷ not_below (suc first) xs
first_is_next start first xs o found =
    rising_ext (not_below start xs) (first ∷ not_below (suc first) xs) (in_order-filter (leb start) xs o)
    (both _ _ (all_above first xs) (in_order-filter (leb (suc first)) xs o))
    (λ q. member-filter (leb start) xs q ∙ here q ∙ ap (λ b. eqb q first || b) (sym (member-filter (leb (suc first)) xs q)))
  where
    here : (q : ℕ) → (member q xs && leb start q) ≡ (eqb q first || (member q xs && leb (suc first) q))
    here q =
        by_equal q first
        (λ t e. rw t (both _ _ (ap (λ w. member w xs) e ∙ found.1) (le-leb start q (omega (arith, found.0, e)))))
        (λ f n. rw f
        (by_test (leb (suc first) q)
        (λ t. let above : first < q = ltb-true first q t in rw (t, le-leb start q (omega (arith, found.0, above))) refl)
        (λ g. let below : q ≤ first = ltb-false first q g in
        by_test (leb start q)
        (λ t. let absent : member q xs ≡ false = found.2 q (leb-true start q t) (omega (arith, below, n)) in rw absent refl)
        (λ h. rw (g, h) refl))))

pub none_is_left : (start : ℕ) (xs : List ℕ) → IsFirstFrom (λ n. member n xs) start None → not_below start xs ≡ []
none_is_left start [] none = refl
none_is_left start (x ∷ xs) none =
    by_test (leb start x)
    (λ t. absurd (true≢false (sym (member-here x xs) ∙ none x (leb-true start x t))))
    (λ f. rw f (none_is_left start xs (λ p le. or-right _ _ (none p le))))

pub all_are_left : (xs : List ℕ) → not_below 0 xs ≡ xs
all_are_left [] = refl
all_are_left (x ∷ xs) = rw (le-leb 0 x (omega arith)) (ap (λ ys. x ∷ ys) (all_are_left xs))

pub first_alike : (f g : ℕ → Bool) (start : ℕ) (r : Option ℕ) → ((p : ℕ) → f p ≡ g p) → IsFirstFrom f start r → IsFirstFrom g start r
first_alike f g start None same none = λ p le. sym (same p) ∙ none p le
first_alike f g start (Some first) same found = (found.0, sym (same first) ∙ found.1, λ p le lt. sym (same p) ∙ found.2 p le lt)

-- a neighbour is a vertex
pub first_live : (g : Graph) (v start : ℕ) (r : Option ℕ) → WellFormed g → IsFirstFrom (joined g.edges v) start r → IfSome r (λ w. IsVertex g w)
first_live g v start None w found = tt
first_live g v start (Some first) w found = neighbour_live g v first (member-neighbours g v first w ∙ found.1)
