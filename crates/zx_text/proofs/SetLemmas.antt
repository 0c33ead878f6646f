-- Orders and sets that are read one number after the other.
use Rattle.std.proofs.Common.{◌≡◌, ℕ, ◌+◌, ◌<◌, ◌≤◌, suc, zero, Bool, true, false, not, eqb, ltb, ◌||◌, ◌&&◌, List, [], ◌∷◌, ◌++◌, length, take, drop, get_or, refl, sym, ap, ap₂, ◌∙◌, subst, ltb-true, le-ltb, lt-ltb, true≢false, arith}
use Rattle.std.proofs.Common.{if◌then◌else◌, is_some, Option}
use Rattle.std.proofs.Math.Seq.{take-suc}
use Rattle.std.specs.List.{list_all}
use Rattle.zx_model.specs.Bits.{member, xor}
use Rattle.zx_calculus.specs.Graph.{Graph, Distinct, in_order, different, end_vertices, ids}
use Rattle.zx_calculus.proofs.Ids.{by_test, by_equal, eqb-self, eqb_comm, and-left, and-right, or-left, or-right, member-here, member-there, member-append, member-filter}
use Rattle.zx_calculus.proofs.Kept.{both}
use Rattle.gflow_laws.specs.Flow.{Correction, order_of, set_of, SameSets}
use Rattle.gflow_laws.proofs.Tables.{set_of-outside}
use Rattle.zx_calculus.proofs.Ids.{Distinct-different}
use Rattle.zx_text.specs.Files.{non_outputs}
use Rattle.zx_text.specs.Internal.Stepping.{Sets, no_sets, with_set, set_added}
use Rattle.zx_text.proofs.PartLemmas.{order-last}

-- ---- the first numbers of a list, and the next
pub taken_more : {A : Type 0} (xs : List A) (i : ℕ) (d : A) → i < length xs → take (i + 1) xs ≡ take i xs ++ get_or xs i d ∷ []
taken_more xs i d lt = let e : i + 1 ≡ suc i = omega arith in ap (λ k. take k xs) e ∙ take-suc xs i d lt

pub all_at_place : {A : Type 0} (p : A → Bool) (xs : List A) (i : ℕ) (d : A) → i < length xs → list_all p xs ≡ true → p (get_or xs i d) ≡ true
all_at_place p [] i d lt all = absurd (omega arith)
all_at_place p (y ∷ ys) zero d lt all = and-left _ _ all
all_at_place p (y ∷ ys) (suc i) d lt all = all_at_place p ys i d (omega arith) (and-right _ _ all)

pub before_place : {A : Type 0} (before : A → A → Bool) (xs : List A) (i : ℕ) (d : A) → i < length xs → in_order before xs ≡ true
    → list_all (λ x. before x (get_or xs i d)) (take i xs) ≡ true
before_place before [] i d lt order = absurd (omega arith)
before_place before (y ∷ ys) zero d lt order = refl
before_place before (y ∷ ys) (suc i) d lt order =
    both _ _ (all_at_place (before y) ys i d (omega arith) (and-left _ _ order)) (before_place before ys i d (omega arith) (and-right _ _ order))

no_longer : (b : Bool) → (b ≡ true → ⊥) → b ≡ false
no_longer true never = absurd (never refl)
no_longer false never = refl

pub not_in_order_at : {A : Type 0} (before : A → A → Bool) (xs : List A) (i : ℕ) (d : A) → i < length xs
    → list_all (λ x. before x (get_or xs i d)) (take i xs) ≡ false → in_order before xs ≡ false
not_in_order_at before xs i d lt fails = no_longer (in_order before xs) (λ t. true≢false (sym (before_place before xs i d lt t) ∙ fails))

pub first_false : (a b : Bool) → a ≡ false → (a && b) ≡ false
first_false true b e = absurd (cc)
first_false false b e = refl

pub second_false : (a b : Bool) → b ≡ false → (a && b) ≡ false
second_false true b e = e
second_false false b e = refl

-- ---- rising sets
pub not_all_below : (xs : List ℕ) (x n : ℕ) → n < x + 1 → list_all (λ w. ltb w n) (xs ++ x ∷ []) ≡ false
not_all_below [] x n lt = let here = le-ltb x n (omega arith) in rw here refl
not_all_below (y ∷ ys) x n lt = second_false (ltb y n) _ (not_all_below ys x n lt)

pub all_below_more : (xs : List ℕ) (least x : ℕ) → list_all (λ w. ltb w least) xs ≡ true → least ≤ x → list_all (λ w. ltb w x) xs ≡ true
all_below_more [] least x all le = refl
all_below_more (y ∷ ys) least x all le =
    let lt = ltb-true y least (and-left _ _ all) in
    both _ _ (lt-ltb y x (omega arith)) (all_below_more ys least x (and-right _ _ all) le)

pub member_more : (set : List ℕ) (xs : List ℕ) (x : ℕ) (new : List ℕ) → ((w : ℕ) → member w set ≡ member w xs) → member x xs ≡ false
    → ((w : ℕ) → member w new ≡ xor (member w set) (eqb w x)) → (w : ℕ) → member w new ≡ member w (xs ++ x ∷ [])
member_more set xs x new same absent toggled w =
    toggled w ∙ ap (λ b. xor b (eqb w x)) (same w)
    ∙ by_equal w x
    (λ t e. let out : member w xs ≡ false = ap (λ v. member v xs) e ∙ absent in
    ap₂ xor out t ∙ sym (member-append w xs (x ∷ []) ∙ ap₂ (λ b c. b || (c || false)) out t))
    (λ f other. ap (xor (member w xs)) f ∙ plain (member w xs) ∙ sym (member-append w xs (x ∷ []) ∙ ap (λ c. member w xs || (c || false)) f ∙ or-none (member w xs)))
  where
    plain : (b : Bool) → xor b false ≡ b
    plain true = refl
    plain false = refl

    or-none : (b : Bool) → (b || false) ≡ b
    or-none true = refl
    or-none false = refl

pub not_below_member : (xs : List ℕ) (x : ℕ) → list_all (λ w. ltb w x) xs ≡ true → member x xs ≡ false
not_below_member [] x all = refl
not_below_member (y ∷ ys) x all =
    let lt = ltb-true y x (and-left _ _ all) in
    by_equal x y (λ t e. absurd (omega arith)) (λ f other. rw f (not_below_member ys x (and-right _ _ all)))

-- ---- orders
pub order_of-no_sets : (vs : List ℕ) → order_of (no_sets vs) ≡ vs
order_of-no_sets [] = refl
order_of-no_sets (v ∷ vs) = ap (λ l. v ∷ l) (order_of-no_sets vs)

set_of-no_sets : (vs : List ℕ) (v : ℕ) → set_of (no_sets vs) v ≡ []
set_of-no_sets [] v = refl
set_of-no_sets (u ∷ us) v = by_test (eqb v u) (λ t. rw t refl) (λ f. rw f (set_of-no_sets us v))

none_in : (xs : List ℕ) → ((w : ℕ) → member w xs ≡ false) → xs ≡ []
none_in [] none = refl
none_in (x ∷ xs) none = absurd (true≢false (sym (member-here x xs) ∙ none x))

all_empty : (t : List Correction) → Distinct (order_of t) → ((v : ℕ) → set_of t v ≡ []) → t ≡ no_sets (order_of t)
all_empty [] differ empty = refl
all_empty (e ∷ es) differ empty =
    ap₂ (λ ms l. record { vertex = e.vertex; members = ms } ∷ l) here (all_empty es differ.1 others)
  where
    here : e.members ≡ []
    here = ap (λ b. if b then e.members else set_of es e.vertex) (sym (eqb-self e.vertex)) ∙ empty e.vertex

    others : (v : ℕ) → set_of es v ≡ []
    others v =
        by_equal v e.vertex
        (λ t same. set_of-outside es v (ap (λ w. member w (order_of es)) same ∙ differ.0))
        (λ f other. ap (λ b. if b then e.members else set_of es v) (sym f) ∙ empty v)

pub same_no_sets : (t : List Correction) (vs : List ℕ) → Distinct vs → SameSets t (no_sets vs) → t ≡ no_sets vs
same_no_sets t vs differ same =
    let order : order_of t ≡ vs = same.order ∙ order_of-no_sets vs in
    all_empty t (subst Distinct (sym order) differ)
    (λ v. none_in (set_of t v) (λ w. same.members v w ∙ ap (λ s. member w s) (set_of-no_sets vs v)))
    ∙ ap no_sets order

pub no_sets-last : (vs : List ℕ) (v : ℕ) → no_sets vs ++ record { vertex = v; members = [] } ∷ [] ≡ no_sets (vs ++ v ∷ [])
no_sets-last [] v = refl
no_sets-last (u ∷ us) v = ap (λ l. record { vertex = u; members = [] } ∷ l) (no_sets-last us v)

pub member-different : (v : ℕ) (xs : List ℕ) → member v xs ≡ true → list_all (λ d. different d v) xs ≡ false
member-different v [] inside = absurd (cc)
member-different v (x ∷ xs) inside =
    by_equal v x
    (λ t e. let back : eqb x v ≡ true = eqb_comm x v ∙ t in first_false _ _ (ap not back))
    (λ f other. let rest : member v xs ≡ true = ap (λ b. b || member v xs) (sym f) ∙ inside in second_false _ _ (member-different v xs rest))

pub different_from : (v : ℕ) (xs : List ℕ) → member v xs ≡ false → list_all (λ d. different d v) xs ≡ true
different_from v [] outside = refl
different_from v (x ∷ xs) outside =
    let other : eqb x v ≡ false = eqb_comm x v ∙ or-left _ _ outside in
    both _ _ (ap not other) (different_from v xs (or-right _ _ outside))

pub next_order : (t t' : List Correction) (vs : List ℕ) (v : ℕ) → t ≡ no_sets vs → in_order different vs ≡ true → member v vs ≡ false
    → SameSets t' (t ++ record { vertex = v; members = [] } ∷ []) → t' ≡ no_sets (vs ++ v ∷ [])
next_order t t' vs v is order fresh same =
    same_no_sets t' (vs ++ v ∷ []) (Distinct-different (vs ++ v ∷ []) (order-last different vs v order (different_from v vs fresh)))
    (subst (SameSets t') (ap (λ s. s ++ record { vertex = v; members = [] } ∷ []) is ∙ no_sets-last vs v) same)

pub list_all-same : {p q : ℕ → Bool} → ((v : ℕ) → p v ≡ q v) → (xs : List ℕ) → list_all p xs ≡ list_all q xs
list_all-same same [] = refl
list_all-same same (x ∷ xs) = ap₂ (λ a b. a && b) (same x) (list_all-same same xs)

pub in_all : (p : ℕ → Bool) (xs : List ℕ) (v : ℕ) → list_all p xs ≡ true → member v xs ≡ true → p v ≡ true
in_all p [] v all inside = absurd (cc)
in_all p (x ∷ xs) v all inside =
    by_equal v x (λ t e. subst (λ u. p u ≡ true) (sym e) (and-left _ _ all))
    (λ f other. in_all p xs v (and-right _ _ all) (ap (λ b. b || member v xs) (sym f) ∙ inside))

pub none_out : (g : Graph) (v : ℕ) → member v (non_outputs g) ≡ (member v (ids g.vertices) && not (member v (end_vertices g.outputs)))
none_out g v = member-filter (λ u. not (member u (end_vertices g.outputs))) (ids g.vertices) v

-- ---- one set after the other
pub drop_next : {A : Type 0} (xs : List A) (i : ℕ) (x : A) → drop i xs ≡ x ∷ drop 1 (drop i xs)
    → (i < length xs) × ((take (suc i) xs ≡ take i xs ++ x ∷ []) × (drop (suc i) xs ≡ drop 1 (drop i xs)))
drop_next [] zero x next = absurd (cc)
drop_next [] (suc i) x next = absurd (cc)
drop_next (y ∷ ys) zero x next = (omega arith, (ap (λ z. z ∷ []) (first next), refl))
  where
    first : {B : Type 0} {a b : B} {xs' ys' : List B} → a ∷ xs' ≡ b ∷ ys' → a ≡ b
    first e = cc
drop_next (y ∷ ys) (suc i) x next =
    let rest = drop_next ys i x next in
    (omega (arith, rest.0), (ap (λ zs. y ∷ zs) rest.1.0, rest.1.1))

pub next_inside : (xs : List ℕ) (i x : ℕ) → drop i xs ≡ x ∷ drop 1 (drop i xs) → member x xs ≡ true
next_inside [] zero x next = absurd (cc)
next_inside [] (suc i) x next = absurd (cc)
next_inside (y ∷ ys) zero x next = let same = eq_from next in subst (λ z. member x (z ∷ ys) ≡ true) (sym same) (member-here x ys)
  where
    eq_from : {a b : ℕ} {xs' ys' : List ℕ} → a ∷ xs' ≡ b ∷ ys' → a ≡ b
    eq_from e = cc
next_inside (y ∷ ys) (suc i) x next = member-there x y ys (next_inside ys i x next)

pub next_of : (all : List ℕ) (i : ℕ) (v : ℕ) → {p : Sets} {g : Graph} {t : List Correction}
    → record { graph = g; table = t; done = take i all; left = drop i all } ≡ p → p.left ≡ v ∷ drop 1 p.left → drop i all ≡ v ∷ drop 1 (drop i all)
next_of all i v {p} {g} {t} view next = left ∙ next ∙ ap (λ l. v ∷ drop 1 l) (sym left)
  where
    left : drop i all ≡ p.left
    left = ap (λ (q : Sets). q.left) view

pub set_taken : (all : List ℕ) (i : ℕ) (v : ℕ) (members set : List ℕ) → {p : Sets} {g : Graph} {t t' : List Correction}
    → record { graph = g; table = t; done = take i all; left = drop i all } ≡ p → drop i all ≡ v ∷ drop 1 (drop i all) → set ≡ members
    → t' ≡ with_set v set t
    → record { graph = g; table = t'; done = take (i + 1) all; left = drop (i + 1) all } ≡ set_added p (drop 1 p.left) v members
set_taken all i v members set {p} {g} {t} {t'} view next same changed =
    made ∙ ap (λ (q : Sets). set_added q (drop 1 q.left) v members) view
  where
    rest : (i < length all) × ((take (i + 1) all ≡ take i all ++ v ∷ []) × (drop (i + 1) all ≡ drop 1 (drop i all)))
    rest = let e : suc i ≡ i + 1 = omega arith in subst (λ k. (i < length all) × ((take k all ≡ take i all ++ v ∷ []) × (drop k all ≡ drop 1 (drop i all)))) e (drop_next all i v next)

    tables : t' ≡ with_set v members t
    tables = changed ∙ ap (λ m. with_set v m t) same

    made : record { graph = g; table = t'; done = take (i + 1) all; left = drop (i + 1) all }
        ≡ set_added (record { graph = g; table = t; done = take i all; left = drop i all }) (drop 1 (drop i all)) v members
    made = λ j. record { graph = g; table = tables j; done = rest.1.0 j; left = rest.1.1 j }

pub out_test : (live out none : Bool) (o : Option ℕ) → live ≡ true → is_some o ≡ out → is_some o ≡ not none → none ≡ (live && not out)
out_test live out none o t e n = sym (ap₂ (λ a b. a && not b) t (sym e ∙ n) ∙ twice none)
  where
    twice : (b : Bool) → (true && not (not b)) ≡ b
    twice true = refl
    twice false = refl
