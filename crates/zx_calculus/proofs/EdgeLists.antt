-- Lists of edges in order, and the adjacency that they stand for: either gives the other.
use Rattle.std.proofs.Common.{◌≡◌, ◌≢◌, ◌⊎◌, inl, inr, refl, sym, ◌∙◌, ap, ap₂, ℕ, ◌<◌, ◌≤◌, Bool, true, false, cond, ◌&&◌, ◌||◌, eqb, ltb, List, [], ◌∷◌, ◌++◌, true≢false, ne_eqb, eq-eqb, ltb-true, ltb-false, lt-ltb, arith}
use Rattle.std.specs.List.{list_all}
use Rattle.zx_model.specs.Bits.{member}
use Rattle.zx_calculus.specs.Graph.{Edge, joins, joined, in_order, edge_before, OrderedEdges}
use Rattle.zx_calculus.specs.Adjacency.{edges_from, edges_of}
use Rattle.zx_calculus.proofs.Booleans.{or-true, or_assoc, and-true, and-false}
use Rattle.zx_calculus.proofs.Ids.{by_test, by_equal, and-left, and-right, or-left, or-right, member-here, member-there, Symmetric}
use Rattle.zx_calculus.proofs.Edges.{joins-true, edge_before-true, apart_later}
use Rattle.zx_calculus.proofs.Kept.{both, all_by}
use Rattle.zx_calculus.proofs.Splitting.{all_at}

joined-append : (es fs : List Edge) (p q : ℕ) → joined (es ++ fs) p q ≡ (joined es p q || joined fs p q)
joined-append [] fs p q = refl
joined-append (e ∷ es) fs p q = ap (λ b. joins e p q || b) (joined-append es fs p q) ∙ or_assoc (joins e p q) (joined es p q) (joined fs p q)

-- where a test holds, what it stands before may be replaced
pub under : (b c d : Bool) → (b ≡ true → c ≡ d) → (b && c) ≡ (b && d)
under true c d h = h refl
under false c d h = refl

or-and : (a b r : Bool) → ((a && r) || (b && r)) ≡ ((a || b) && r)
or-and true b true = refl
or-and true true false = refl
or-and true false false = refl
or-and false b r = refl

and-or : (b c m : Bool) → ((b && c) || (b && m)) ≡ (b && (c || m))
and-or true c m = refl
and-or false c m = refl

or_swap_middle : (a b c d : Bool) → ((a || b) || (c || d)) ≡ ((a || c) || (b || d))
or_swap_middle true b c d = refl
or_swap_middle false true true d = refl
or_swap_middle false true false d = refl
or_swap_middle false false c d = refl

collect : (b c d e m n r : Bool) → ((((b && c) || (d && e)) && r) || (((b && m) || (d && n)) && r)) ≡ (((b && (c || m)) || (d && (e || n))) && r)
collect b c d e m n r =
    or-and ((b && c) || (d && e)) ((b && m) || (d && n)) r
    ∙ ap (λ z. z && r) (or_swap_middle (b && c) (d && e) (b && m) (d && n) ∙ ap₂ (λ x y. x || y) (and-or b c m) (and-or d e n))

joined-edges_from : (a : ℕ → ℕ → Bool) (v : ℕ) (ws : List ℕ) (p q : ℕ) → Symmetric a → joined (edges_from a v ws) p q ≡ (((eqb p v && member q ws) || (eqb q v && member p ws)) && a p q)
joined-edges_from a v [] p q s = nothing (eqb p v) (eqb q v) (a p q)
  where
    nothing : (b c d : Bool) → false ≡ (((b && false) || (c && false)) && d)
    nothing true true d = refl
    nothing true false d = refl
    nothing false true d = refl
    nothing false false d = refl
joined-edges_from a v (w ∷ ws) p q s =
    split (a v w) refl (joined-edges_from a v ws p q s) ∙ collect (eqb p v) (eqb q w) (eqb q v) (eqb p w) (member q ws) (member p ws) (a p q)
  where
    same : ((p ≡ v) × (q ≡ w)) ⊎ ((q ≡ v) × (p ≡ w)) → a v w ≡ a p q
    same (inl h) = ap₂ a (sym h.0) (sym h.1)
    same (inr h) = s v w ∙ ap₂ a (sym h.1) (sym h.0)

    here : (b : Bool) → a v w ≡ b → ((joins (record { lower = v; higher = w }) p q) && b) ≡ ((joins (record { lower = v; higher = w }) p q) && a p q)
    here b e = under (joins (record { lower = v; higher = w }) p q) b (a p q) (λ t. sym e ∙ same (joins-true (record { lower = v; higher = w }) p q t))

    split : (b : Bool) → a v w ≡ b → joined (edges_from a v ws) p q ≡ (((eqb p v && member q ws) || (eqb q v && member p ws)) && a p q) →
        joined (cond b (record { lower = v; higher = w } ∷ edges_from a v ws) (edges_from a v ws)) p q
        ≡ ((joins (record { lower = v; higher = w }) p q && a p q) || (((eqb p v && member q ws) || (eqb q v && member p ws)) && a p q))
    split true e again = ap₂ (λ x y. x || y) (sym (and-true (joins (record { lower = v; higher = w }) p q)) ∙ here true e) again
    split false e again = ap₂ (λ x y. x || y) (sym (and-false (joins (record { lower = v; higher = w }) p q)) ∙ here false e) again

both_there : (b d m n r : Bool) → (b && d) ≡ false → ((((b && n) || (d && m)) && r) || ((m && n) && r)) ≡ (((b || m) && (d || n)) && r)
both_there b d m n r h = or-and ((b && n) || (d && m)) (m && n) r ∙ ap (λ z. z && r) (flat b d m n h)
  where
    flat : (b d m n : Bool) → (b && d) ≡ false → (((b && n) || (d && m)) || (m && n)) ≡ ((b || m) && (d || n))
    flat true true m n h = absurd (true≢false h)
    flat true false true true h = refl
    flat true false true false h = refl
    flat true false false true h = refl
    flat true false false false h = refl
    flat false true true n h = refl
    flat false true false n h = refl
    flat false false m n h = refl

pub joined-edges_of : (a : ℕ → ℕ → Bool) (vs : List ℕ) (p q : ℕ) → Symmetric a → p ≢ q → joined (edges_of a vs) p q ≡ ((member p vs && member q vs) && a p q)
joined-edges_of a [] p q s n = refl
joined-edges_of a (v ∷ vs) p q s n =
    joined-append (edges_from a v vs) (edges_of a vs) p q
    ∙ ap₂ (λ x y. x || y) (joined-edges_from a v vs p q s) (joined-edges_of a vs p q s n)
    ∙ both_there (eqb p v) (eqb q v) (member p vs) (member q vs) (a p q)
    (by_equal p v (λ t e. let other : eqb q v ≡ false = ne_eqb q v (λ e'. n (e ∙ sym e')) in rw other (and-false (eqb p v))) (λ f m. ap (λ b. b && eqb q v) f))

-- the list of the adjacent pairs is in order
list_all-append : (t : Edge → Bool) (es fs : List Edge) → list_all t es ≡ true → list_all t fs ≡ true → list_all t (es ++ fs) ≡ true
list_all-append t [] fs g h = h
list_all-append t (e ∷ es) fs g h = both _ _ (and-left _ _ g) (list_all-append t es fs (and-right _ _ g) h)

list_all-edges_from : (t : Edge → Bool) (a : ℕ → ℕ → Bool) (v : ℕ) (ws : List ℕ) → list_all (λ w. t (record { lower = v; higher = w })) ws ≡ true → list_all t (edges_from a v ws) ≡ true
list_all-edges_from t a v [] h = refl
list_all-edges_from t a v (w ∷ ws) h =
    by_test (a v w) (λ s. rw s (both _ _ (and-left _ _ h) (list_all-edges_from t a v ws (and-right _ _ h)))) (λ f. rw f (list_all-edges_from t a v ws (and-right _ _ h)))

list_all-same : (t s : ℕ → Bool) (ws : List ℕ) → ((w : ℕ) → t w ≡ true → s w ≡ true) → list_all t ws ≡ true → list_all s ws ≡ true
list_all-same t s [] h g = refl
list_all-same t s (w ∷ ws) h g = both _ _ (h w (and-left _ _ g)) (list_all-same t s ws h (and-right _ _ g))

before_same : (v w x : ℕ) → ltb w x ≡ true → edge_before (record { lower = v; higher = w }) (record { lower = v; higher = x }) ≡ true
before_same v w x h = rw (eq-eqb v v refl, h) (or-true (ltb v v))

before_later : (v w : ℕ) (e : Edge) → ltb v e.lower ≡ true → edge_before (record { lower = v; higher = w }) e ≡ true
before_later v w e h = ap (λ b. b || (eqb v e.lower && ltb w e.higher)) h

in_order-edges_from : (a : ℕ → ℕ → Bool) (v : ℕ) (ws : List ℕ) → in_order ltb ws ≡ true → in_order edge_before (edges_from a v ws) ≡ true
in_order-edges_from a v [] h = refl
in_order-edges_from a v (w ∷ ws) h =
    by_test (a v w)
    (λ s. rw s (both _ _ (list_all-edges_from (edge_before (record { lower = v; higher = w })) a v ws (list_all-same (ltb w) _ ws (before_same v w) (and-left _ _ h))) (in_order-edges_from a v ws (and-right _ _ h))))
    (λ f. rw f (in_order-edges_from a v ws (and-right _ _ h)))

in_order-append : (es fs : List Edge) → in_order edge_before es ≡ true → in_order edge_before fs ≡ true → list_all (λ e. list_all (edge_before e) fs) es ≡ true → in_order edge_before (es ++ fs) ≡ true
in_order-append [] fs g h k = h
in_order-append (e ∷ es) fs g h k =
    both _ _ (list_all-append (edge_before e) es fs (and-left _ _ g) (and-left _ _ k)) (in_order-append es fs (and-right _ _ g) h (and-right _ _ k))

all_edges_of : (t : Edge → Bool) (a : ℕ → ℕ → Bool) (vs : List ℕ) → ((v w : ℕ) → member v vs ≡ true → member w vs ≡ true → v < w → t (record { lower = v; higher = w }) ≡ true) → in_order ltb vs ≡ true → list_all t (edges_of a vs) ≡ true
all_edges_of t a [] h o = refl
all_edges_of t a (v ∷ vs) h o =
    list_all-append t (edges_from a v vs) (edges_of a vs)
    (list_all-edges_from t a v vs (all_by _ vs (λ w s. h v w (member-here v vs) (member-there w v vs s) (ltb-true v w (all_at (ltb v) vs w (and-left _ _ o) s)))))
    (all_edges_of t a vs (λ x w s r lt. h x w (member-there x v vs s) (member-there w v vs r) lt) (and-right _ _ o))

pub OrderedEdges-edges_of : (a : ℕ → ℕ → Bool) (vs : List ℕ) → in_order ltb vs ≡ true → OrderedEdges vs (edges_of a vs)
OrderedEdges-edges_of a vs o =
    record {
      lower_first = all_edges_of _ a vs (λ v w s t lt. lt-ltb v w lt) o;
      rising = rising vs o;
      lower_there = all_edges_of _ a vs (λ v w s t lt. s) o;
      higher_there = all_edges_of _ a vs (λ v w s t lt. t) o;
    }
  where
    rising : (vs : List ℕ) → in_order ltb vs ≡ true → in_order edge_before (edges_of a vs) ≡ true
    rising [] o = refl
    rising (v ∷ vs) o =
        in_order-append (edges_from a v vs) (edges_of a vs) (in_order-edges_from a v vs (and-right _ _ o)) (rising vs (and-right _ _ o))
        (list_all-edges_from _ a v vs
        (all_by _ vs (λ w s. all_edges_of (edge_before (record { lower = v; higher = w })) a vs (λ x y r t lt. before_later v w (record { lower = x; higher = y }) (all_at (ltb v) vs x (and-left _ _ o) r)) (and-right _ _ o))))

-- two lists in order with one adjacency are the same
joined-first : (e : Edge) (es : List Edge) → joined (e ∷ es) e.lower e.higher ≡ true
joined-first e es = rw (eq-eqb e.lower e.lower refl, eq-eqb e.higher e.higher refl)

edge_before-from : (d e : Edge) → (d.lower < e.lower) ⊎ ((d.lower ≡ e.lower) × (d.higher < e.higher)) → edge_before d e ≡ true
edge_before-from d e (inl h) = ap (λ b. b || (eqb d.lower e.lower && ltb d.higher e.higher)) (lt-ltb d.lower e.lower h)
edge_before-from d e (inr h) = rw (eq-eqb d.lower e.lower h.0, lt-ltb d.higher e.higher h.1) (or-true (ltb d.lower e.lower))

edge_before_trans : (d e f : Edge) → edge_before d e ≡ true → edge_before e f ≡ true → edge_before d f ≡ true
edge_before_trans d e f g h = edge_before-from d f (chain (edge_before-true d e g) (edge_before-true e f h))
  where
    chain : (d.lower < e.lower) ⊎ ((d.lower ≡ e.lower) × (d.higher < e.higher)) → (e.lower < f.lower) ⊎ ((e.lower ≡ f.lower) × (e.higher < f.higher)) → (d.lower < f.lower) ⊎ ((d.lower ≡ f.lower) × (d.higher < f.higher))
    chain (inl x) (inl y) = inl (omega arith)
    chain (inl x) (inr y) = inl (omega (arith, y.0))
    chain (inr x) (inl y) = inl (omega (arith, x.0))
    chain (inr x) (inr y) = inr (x.0 ∙ y.0, omega (arith, x.1, y.1))

lower_apart : (e : Edge) → ltb e.lower e.higher ≡ true → e.lower ≢ e.higher
lower_apart e h q = let lt : e.lower < e.higher = ltb-true e.lower e.higher h in absurd (omega arith)

-- a list in order that begins after e has no edge where e is
joined-before : (e f : Edge) (fs : List Edge) → e.lower < e.higher → list_all (λ d. ltb d.lower d.higher) (f ∷ fs) ≡ true → in_order edge_before (f ∷ fs) ≡ true → edge_before e f ≡ true → joined (f ∷ fs) e.lower e.higher ≡ false
joined-before e f fs first firsts order before =
    apart_later e (f ∷ fs) e.lower e.higher first firsts (both _ _ before (all_after fs (and-left _ _ order))) (rw (eq-eqb e.lower e.lower refl, eq-eqb e.higher e.higher refl))
  where
    all_after : (gs : List Edge) → list_all (edge_before f) gs ≡ true → list_all (edge_before e) gs ≡ true
    all_after [] h = refl
    all_after (g ∷ gs) h = both _ _ (edge_before_trans e f g before (and-left _ _ h)) (all_after gs (and-right _ _ h))

not_below : (m n : ℕ) → ltb m n ≡ false → ltb n m ≡ false → m ≡ n
not_below m n g h = let x : n ≤ m = ltb-false m n g in let y : m ≤ n = ltb-false n m h in omega arith

neither_before : (d e : Edge) → edge_before d e ≡ false → edge_before e d ≡ false → d ≡ e
neither_before d e g h = λ j. record { lower = lowers j; higher = highers j }
  where
    lowers : d.lower ≡ e.lower
    lowers = not_below d.lower e.lower (or-left (ltb d.lower e.lower) (eqb d.lower e.lower && ltb d.higher e.higher) g) (or-left (ltb e.lower d.lower) (eqb e.lower d.lower && ltb e.higher d.higher) h)

    highers : d.higher ≡ e.higher
    highers =
        not_below d.higher e.higher
        (ap (λ b. b && ltb d.higher e.higher) (sym (eq-eqb d.lower e.lower lowers)) ∙ or-right (ltb d.lower e.lower) (eqb d.lower e.lower && ltb d.higher e.higher) g)
        (ap (λ b. b && ltb e.higher d.higher) (sym (eq-eqb e.lower d.lower (sym lowers))) ∙ or-right (ltb e.lower d.lower) (eqb e.lower d.lower && ltb e.higher d.higher) h)

pub edges_ext : (es fs : List Edge) → list_all (λ d. ltb d.lower d.higher) es ≡ true → list_all (λ d. ltb d.lower d.higher) fs ≡ true → in_order edge_before es ≡ true → in_order edge_before fs ≡ true →
    ((p q : ℕ) → p ≢ q → joined es p q ≡ joined fs p q) → es ≡ fs
edges_ext [] [] a b c d h = refl
edges_ext [] (f ∷ fs) a b c d h = absurd (true≢false (sym (joined-first f fs) ∙ sym (h f.lower f.higher (lower_apart f (and-left _ _ b)))))
edges_ext (e ∷ es) [] a b c d h = absurd (true≢false (sym (joined-first e es) ∙ h e.lower e.higher (lower_apart e (and-left _ _ a))))
edges_ext (e ∷ es) (f ∷ fs) a b c d h =
    ap₂ (λ x xs. x ∷ xs) same_first (edges_ext es fs (and-right _ _ a) (and-right _ _ b) (and-right _ _ c) (and-right _ _ d) rest)
  where
    e_first : e.lower < e.higher
    e_first = ltb-true e.lower e.higher (and-left _ _ a)

    f_first : f.lower < f.higher
    f_first = ltb-true f.lower f.higher (and-left _ _ b)

    same_first : e ≡ f
    same_first =
        by_test (edge_before e f)
        (λ t. absurd (true≢false (sym (joined-first e es) ∙ h e.lower e.higher (lower_apart e (and-left _ _ a)) ∙ joined-before e f fs e_first b d t)))
        (λ s. by_test (edge_before f e)
        (λ t. absurd (true≢false (sym (joined-first f fs) ∙ sym (h f.lower f.higher (lower_apart f (and-left _ _ b))) ∙ joined-before f e es f_first a c t)))
        (λ t. neither_before e f s t))

    es_first : list_all (λ d. ltb d.lower d.higher) es ≡ true
    es_first = and-right (ltb e.lower e.higher) (list_all (λ d. ltb d.lower d.higher) es) a

    fs_first : list_all (λ d. ltb d.lower d.higher) fs ≡ true
    fs_first = and-right (ltb f.lower f.higher) (list_all (λ d. ltb d.lower d.higher) fs) b

    e_before : list_all (edge_before e) es ≡ true
    e_before = and-left (list_all (edge_before e) es) (in_order edge_before es) c

    f_before : list_all (edge_before f) fs ≡ true
    f_before = and-left (list_all (edge_before f) fs) (in_order edge_before fs) d

    at_e : (p q : ℕ) → joins e p q ≡ true → joined es p q ≡ joined fs p q
    at_e p q t =
        apart_later e es p q e_first es_first e_before t
        ∙ sym (apart_later f fs p q f_first fs_first f_before (ap (λ g. joins g p q) (sym same_first) ∙ t))

    rest : (p q : ℕ) → p ≢ q → joined es p q ≡ joined fs p q
    rest p q n =
        by_test (joins e p q) (at_e p q)
        (λ t. ap (λ x. x || joined es p q) (sym t) ∙ h p q n ∙ ap (λ x. x || joined fs p q) (ap (λ g. joins g p q) (sym same_first) ∙ t))
