-- Rising lists with the same members are equal, and so are graphs that agree in members, kinds, adjacency and ends.
use Rattle.std.proofs.Common.{◌≡◌, refl, sym, ◌∙◌, ap, ap₂, ℕ, Bool, true, false, ◌&&◌, ◌||◌, ltb, List, [], ◌∷◌, filter, true≢false, eq-eqb, ne_eqb, ltb-true, ltb-false, arith}
use Rattle.std.specs.List.{list_all}
use Rattle.zx_model.specs.Bits.{member}
use Rattle.zx_calculus.specs.Graph.{Vertex, Graph, ids, kind_of, joined, in_order, neighbours, WellFormed}
use Rattle.zx_calculus.proofs.Ids.{by_test, by_equal, and-left, and-right, eqb-self, member-here, member-there, member-below, member-filter, Distinct, Distinct-rising}
use Rattle.zx_calculus.proofs.Edges.{joined_comm}
use Rattle.zx_calculus.proofs.Splitting.{joined-absent}
use Rattle.zx_calculus.proofs.Kept.{both, below_all}

-- of two rising lists with the same members, none begins below the other
not_before : (x y : ℕ) (xs ys : List ℕ) → in_order ltb (y ∷ ys) ≡ true → member x (x ∷ xs) ≡ member x (y ∷ ys) → ltb x y ≡ false
not_before x y xs ys o same =
    by_test (ltb x y)
    (λ t. absurd (true≢false (sym (member-here x xs) ∙ same ∙ member-below x (y ∷ ys) (both _ _ t (below_all x y ys (ltb-true x y t) (and-left _ _ o))))))
    (λ f. f)

pub rising_ext : (xs ys : List ℕ) → in_order ltb xs ≡ true → in_order ltb ys ≡ true → ((p : ℕ) → member p xs ≡ member p ys) → xs ≡ ys
rising_ext [] [] o o' h = refl
rising_ext [] (y ∷ ys) o o' h = absurd (true≢false (sym (member-here y ys) ∙ sym (h y)))
rising_ext (x ∷ xs) [] o o' h = absurd (true≢false (sym (member-here x xs) ∙ h x))
rising_ext (x ∷ xs) (y ∷ ys) o o' h = ap₂ (λ z zs. z ∷ zs) first (rising_ext xs ys (and-right _ _ o) (and-right _ _ o') rest)
  where
    first : x ≡ y
    first =
        let below = ltb-false x y (not_before x y xs ys o' (h x)) in
        let above = ltb-false y x (not_before y x ys xs o (sym (h y))) in
        omega (arith, below, above)

    rest : (p : ℕ) → member p xs ≡ member p ys
    rest p =
        by_equal p x
        (λ t e. ap (λ w. member w xs) e ∙ member-below x xs (and-left _ _ o) ∙ sym (ap (λ w. member w ys) (e ∙ first) ∙ member-below y ys (and-left _ _ o')))
        (λ f n. ap (λ b. b || member p xs) (sym f) ∙ h p ∙ ap (λ b. b || member p ys) (ne_eqb p y (λ e. n (e ∙ sym first))))

-- a part of a rising list rises
list_all-filter : (q t : ℕ → Bool) (xs : List ℕ) → list_all q xs ≡ true → list_all q (filter t xs) ≡ true
list_all-filter q t [] h = refl
list_all-filter q t (x ∷ xs) h =
    by_test (t x) (λ s. rw s (both _ _ (and-left _ _ h) (list_all-filter q t xs (and-right _ _ h)))) (λ f. rw f (list_all-filter q t xs (and-right _ _ h)))

pub in_order-filter : (t : ℕ → Bool) (xs : List ℕ) → in_order ltb xs ≡ true → in_order ltb (filter t xs) ≡ true
in_order-filter t [] h = refl
in_order-filter t (x ∷ xs) h =
    by_test (t x) (λ s. rw s (both _ _ (list_all-filter (ltb x) t xs (and-left _ _ h)) (in_order-filter t xs (and-right _ _ h)))) (λ f. rw f (in_order-filter t xs (and-right _ _ h)))

-- lists of vertices with the same ids and kinds
kinds_ext : (vs ws : List Vertex) → Distinct (ids vs) → ids vs ≡ ids ws → ((p : ℕ) → member p (ids vs) ≡ true → kind_of vs p ≡ kind_of ws p) → vs ≡ ws
kinds_ext [] [] d e h = refl
kinds_ext [] (w ∷ ws) d e h = cc
kinds_ext (v ∷ vs) [] d e h = cc
kinds_ext (v ∷ vs) (w ∷ ws) d e h = ap₂ (λ z zs. z ∷ zs) (λ j. record { id = same_id j; kind = same_kind j }) (kinds_ext vs ws d.1 same_ids rest)
  where
    same_id : v.id ≡ w.id
    same_id = cc

    same_ids : ids vs ≡ ids ws
    same_ids = cc

    same_kind : v.kind ≡ w.kind
    same_kind = rw (eqb-self v.id, eq-eqb v.id w.id same_id) at (h v.id (member-here v.id (ids vs)))

    rest : (p : ℕ) → member p (ids vs) ≡ true → kind_of vs p ≡ kind_of ws p
    rest p t =
        by_equal p v.id (λ s e. absurd (true≢false (sym t ∙ ap (λ q. member q (ids vs)) e ∙ d.0)))
        (λ f n. let there : member p (ids (v ∷ vs)) ≡ true = member-there p v.id (ids vs) t in
        rw (f, ne_eqb p w.id (λ e. n (e ∙ sym same_id))) at (h p there))

pub vertices_ext : (vs ws : List Vertex) → in_order ltb (ids vs) ≡ true → in_order ltb (ids ws) ≡ true → ((p : ℕ) → member p (ids vs) ≡ member p (ids ws)) → ((p : ℕ) → member p (ids vs) ≡ true → kind_of vs p ≡ kind_of ws p) → vs ≡ ws
vertices_ext vs ws o o' members kinds = kinds_ext vs ws (Distinct-rising (ids vs) o) (rising_ext (ids vs) (ids ws) o o' members) kinds

-- a rising list of those adjacent to u is the list of its neighbours
pub neighbours_ext : (g : Graph) (u : ℕ) (row : List ℕ) → WellFormed g → in_order ltb row ≡ true → ((p : ℕ) → member p row ≡ joined g.edges u p) → row ≡ neighbours g u
neighbours_ext g u row w rising tells =
    rising_ext row (neighbours g u) rising (in_order-filter (joined g.edges u) (ids g.vertices) w.vertices_rising)
    (λ p. tells p ∙ here p ∙ sym (member-filter (joined g.edges u) (ids g.vertices) p))
  where
    here : (p : ℕ) → joined g.edges u p ≡ (member p (ids g.vertices) && joined g.edges u p)
    here p =
        by_test (member p (ids g.vertices)) (λ t. rw t refl)
        (λ f. rw f (joined_comm g.edges u p ∙ joined-absent (ids g.vertices) g.edges p u w.edges.lower_there w.edges.higher_there f))
