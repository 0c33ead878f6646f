-- The rows of the outputs that are no inputs, over the vertices that are no outputs, are linearly independent.
use Rattle.std.proofs.Common.{◌≡◌, ◌≢◌, ◌⊎◌, refl, sym, ◌∙◌, ap, ap₂, inl, inr, ℕ, zero, suc, ◌<◌, ◌≤◌, Bool, true, false, not, ◌&&◌, ◌||◌, if◌then◌else◌, eqb, List, [], ◌∷◌, ◌++◌, length, map, filter, replicate, true≢false, arith}
use Rattle.std.proofs.lemmas.Bool.{cases_lt, false_from_ne_true, ne_eqb}
use Rattle.std.proofs.lemmas.List.{length-map, length-append, length-replicate, append_assoc}
use Rattle.zx_model.specs.Bits.{xor, bit, member}
use Rattle.zx_model.proofs.BitLemmas.{xor_comm}
use Rattle.zx_calculus.specs.Graph.{XY, XZ, YZ, Plane, Graph, ids, end_vertices, Distinct, WellFormed}
use Rattle.zx_calculus.proofs.Ids.{by_test, by_equal, removed, member-removed, Distinct-removed, member-here, member-there, member-filter, member-append, Distinct-different, eqb-self, and-left, and-right, or-left, or-right}
use Rattle.zx_calculus.proofs.Booleans.{and-false, or-true, or-false, parities}
use Rattle.zx_calculus.proofs.Splitting.{all_at, distinct}
use Rattle.gflow_laws.specs.Seen.{Seen, seen, in_odd_neighbourhood}
use Rattle.gflow_laws.specs.Flow.{Correction, order_of, set_of, is_in, is_later, IsFlow, Corrects, inside_in, odd_in}
use Rattle.gflow_laws.specs.Correcting.{FlowAsFunctions}
use Rattle.gflow_laws.proofs.Linear.{masked-none, member-removed as member-of_removed}
use Rattle.gflow_laws.proofs.Corrects.{odd-xor}
use Rattle.gflow_laws.proofs.Flows.{Flows-from, live}
use Rattle.gflow_laws.proofs.AllEnds.{same_members}
use Rattle.zx_calculus.proofs.ReducedLemmas.{length-places}

-- ---- lists without repetition

-- inside another list, they aren't longer
few_inside : (xs ys : List ℕ) → Distinct xs → ((w : ℕ) → member w xs ≡ true → member w ys ≡ true) → length xs ≤ length ys
few_inside [] ys d inside = omega arith
few_inside (x ∷ xs) ys d inside =
    elim (cases_lt (length xs) (length ys)) [
      | inl longer ↦ omega arith
      | inr short ↦
          absurd (true≢false
          (sym (same_members xs ys d.1 short (λ w there. inside w (member-there w x xs there)) x ∙ inside x (member-here x xs)) ∙ d.0))
    ]

distinct_both : (xs ys : List ℕ) → Distinct xs → Distinct ys → ((w : ℕ) → member w xs ≡ true → member w ys ≡ false) → Distinct (xs ++ ys)
distinct_both [] ys d e apart = e
distinct_both (x ∷ xs) ys d e apart = (
  member-append x xs ys ∙ ap₂ (λ a b. a || b) d.0 (apart x (member-here x xs)),
  distinct_both xs ys d.1 e (λ w there. apart w (member-there w x xs there)),
)

distinct_filter : (t : ℕ → Bool) (vs : List ℕ) → Distinct vs → Distinct (filter t vs)
distinct_filter t [] d = tt
distinct_filter t (v ∷ vs) d =
    by_test (t v)
    (λ s. rw s (member-filter t vs v ∙ ap (λ b. b && t v) d.0, distinct_filter t vs d.1))
    (λ f. rw f (distinct_filter t vs d.1))

shorter : (c : ℕ) (cols : List ℕ) → Distinct cols → member c cols ≡ true → length (removed c cols) < length cols
shorter c cols d there =
    few_inside (c ∷ removed c cols) cols (member-removed c cols, Distinct-removed c cols d) (λ w e. inside w e)
  where
    inside : (w : ℕ) → member w (c ∷ removed c cols) ≡ true → member w cols ≡ true
    inside w e =
        by_equal w c
        (λ t same. ap (λ x. member x cols) same ∙ there)
        (λ f ne. sym (ap (λ b. not b && member w cols) f) ∙ sym (member-of_removed w c cols) ∙ sym (ap (λ b. b || member w (removed c cols)) f) ∙ e)

-- ---- more rows than columns are dependent

-- the sum of the picked rows at a column
abbrev pub sum_at : List (ℕ → Bool) → List Bool → ℕ → Bool
sum_at [] set x = false
sum_at (row ∷ rows) [] x = false
sum_at (row ∷ rows) (picked ∷ set) x = xor (picked && row x) (sum_at rows set x)

-- none are picked whose sum is zero at each column
abbrev pub AreIndependent : List (ℕ → Bool) → List ℕ → Type 0
AreIndependent rows cols =
    (set : List Bool) → length set ≡ length rows → ((x : ℕ) → member x cols ≡ true → sum_at rows set x ≡ false) → (k : ℕ) → bit set k ≡ false

-- a row, with another one added if its column c is set
cleared : (ℕ → Bool) → ℕ → (ℕ → Bool) → ℕ → Bool
cleared pivot c row x = xor (row x) (row c && pivot x)

sum_of-no_rows : (rows : List (ℕ → Bool)) (n : ℕ) (x : ℕ) → sum_at rows (replicate n false) x ≡ false
sum_of-no_rows [] n x = refl
sum_of-no_rows (row ∷ rows) zero x = refl
sum_of-no_rows (row ∷ rows) (suc n) x = sum_of-no_rows rows n x

sum_cleared : (pivot : ℕ → Bool) (c : ℕ) (rows : List (ℕ → Bool)) (set : List Bool) (x : ℕ) →
    sum_at (map (cleared pivot c) rows) set x ≡ xor (sum_at rows set x) (sum_at rows set c && pivot x)
unfolding cleared
sum_cleared pivot c [] set x = refl
sum_cleared pivot c (row ∷ rows) [] x = refl
sum_cleared pivot c (row ∷ rows) (picked ∷ set) x =
    ap (xor (picked && xor (row x) (row c && pivot x))) (sum_cleared pivot c rows set x)
    ∙ regroup picked (row x) (row c) (pivot x) (sum_at rows set x) (sum_at rows set c)
  where
    regroup : (b m n q u v : Bool) → xor (b && xor m (n && q)) (xor u (v && q)) ≡ xor (xor (b && m) u) (xor (b && n) v && q)
    regroup b m n q u v = simp parities

first_set : (row : ℕ → Bool) (cols : List ℕ) → ((x : ℕ) → member x cols ≡ true → row x ≡ false) ⊎ ((c : ℕ) × (member c cols ≡ true) × (row c ≡ true))
first_set row [] = inl (λ x e. absurd (true≢false (sym e)))
first_set row (y ∷ ys) =
    by_test (row y)
    (λ t. inr (y, member-here y ys, t))
    (λ f. elim (first_set row ys) [
      | inl none ↦ inl (λ x there. by_equal x y (λ t same. ap row same ∙ f) (λ g ne. none x (sym (ap (λ b. b || member x ys) g) ∙ there)))
      | inr found ↦ inr (found.0, member-there found.0 y ys found.1, found.2)
    ])

still_independent : (pivot : ℕ → Bool) (rows : List (ℕ → Bool)) (cols : List ℕ) (c : ℕ) → pivot c ≡ true → AreIndependent (pivot ∷ rows) cols →
    AreIndependent (map (cleared pivot c) rows) (removed c cols)
still_independent pivot rows cols c here free set size none k =
    free (sum_at rows set c ∷ set) (ap suc (size ∙ length-map rows (cleared pivot c)))
    (λ x there. by_equal x c
    (λ t same.
    ap (λ y. xor (sum_at rows set c && pivot y) (sum_at rows set y)) same ∙ ap (λ q. xor (sum_at rows set c && q) (sum_at rows set c)) here ∙ twice (sum_at rows set c))
    (λ f ne.
    xor_comm (sum_at rows set c && pivot x) (sum_at rows set x) ∙ sym (sum_cleared pivot c rows set x)
    ∙ none x (member-of_removed x c cols ∙ ap₂ (λ a b. not a && b) f there)))
    (suc k)
  where
    twice : (b : Bool) → xor (b && true) b ≡ false
    twice true = refl
    twice false = refl

few_rows : (n : ℕ) (rows : List (ℕ → Bool)) (cols : List ℕ) → length rows ≡ n → Distinct cols → AreIndependent rows cols → n ≤ length cols
few_rows zero rows cols size d free = omega arith
few_rows (suc n) [] cols size d free = absurd (omega arith)
few_rows (suc n) (pivot ∷ rows) cols size d free =
    elim (first_set pivot cols) [
      | inl none ↦
          absurd (true≢false (free (true ∷ replicate (length rows) false) (ap suc (length-replicate (length rows) false))
          (λ x there. ap₂ xor (none x there) (sum_of-no_rows rows (length rows) x)) 0))
      | inr found ↦
          let less = shorter found.0 cols d found.1 in
          let rest = few_rows n (map (cleared pivot found.0) rows) (removed found.0 cols) (length-map rows (cleared pivot found.0) ∙ omega arith)
          (Distinct-removed found.0 cols d) (still_independent pivot rows cols found.0 found.2 free) in
          omega (arith, less, rest)
    ]

-- ---- rows in triangular form

-- each row has its own column, and none of the columns before it
abbrev pub IsTriangular : (ℕ → ℕ → Bool) → List ℕ → Type 0
IsTriangular f [] = Unit {0}
IsTriangular f (v ∷ vs) = (f v v ≡ true) × ((u : ℕ) → member u vs ≡ true → f u v ≡ false) × IsTriangular f vs

unset_column : (f : ℕ → ℕ → Bool) (vs : List ℕ) (set : List Bool) (x : ℕ) → ((u : ℕ) → member u vs ≡ true → f u x ≡ false) → sum_at (map f vs) set x ≡ false
unset_column f [] set x none = refl
unset_column f (v ∷ vs) [] x none = refl
unset_column f (v ∷ vs) (picked ∷ set) x none =
    ap₂ (λ a b. xor (picked && a) b) (none v (member-here v vs)) (unset_column f vs set x (λ u there. none u (member-there u v vs there)))
    ∙ ap (λ b. xor b false) (and-false picked)

each_unset : (picked : Bool) (set : List Bool) → picked ≡ false → ((k : ℕ) → bit set k ≡ false) → (k : ℕ) → bit (picked ∷ set) k ≡ false
each_unset picked set first later zero = first
each_unset picked set first later (suc k) = later k

alone : (b : Bool) → xor (b && true) false ≡ b
alone true = refl
alone false = refl

none_picked : (f : ℕ → ℕ → Bool) (vs : List ℕ) (set : List Bool) → IsTriangular f vs → length set ≡ length vs →
    ((v : ℕ) → member v vs ≡ true → sum_at (map f vs) set v ≡ false) → (k : ℕ) → bit set k ≡ false
none_picked f vs [] tri size sums k = refl
none_picked f [] (picked ∷ set) tri size sums k = absurd (omega arith)
none_picked f (v ∷ vs) (picked ∷ set) tri size sums k =
    each_unset picked set first
    (none_picked f vs set tri.2 (omega arith) (λ u there. sym (ap (λ b. xor (b && f v u) (sum_at (map f vs) set u)) first) ∙ sums u (member-there u v vs there)))
    k
  where
    first : picked ≡ false
    first = sym (ap₂ (λ a b. xor (picked && a) b) tri.0 (unset_column f vs set v tri.1) ∙ alone picked) ∙ sums v (member-here v vs)

unpicked : (rows : List (ℕ → Bool)) (set : List Bool) (x : ℕ) → ((k : ℕ) → bit set k ≡ false) → sum_at rows set x ≡ false
unpicked [] set x none = refl
unpicked (row ∷ rows) [] x none = refl
unpicked (row ∷ rows) (picked ∷ set) x none = ap₂ (λ a b. xor (a && row x) b) (none 0) (unpicked rows set x (λ k. none (suc k)))

-- ---- what a set has at a vertex, by its plane

-- whether v has an odd number of neighbours in the set; where that is even in its own set, whether it is in the set
own_at : Seen → ℕ → (ℕ → Bool) → Bool
own_at s v A = if odd_in (s.plane v) then in_odd_neighbourhood s A v else A v

either_at : (s : Seen) (v : ℕ) (A : ℕ → Bool) (b : Bool) → in_odd_neighbourhood s A v ≡ b → A v ≡ b → own_at s v A ≡ b
unfolding own_at
either_at s v A b p q = at (odd_in (s.plane v))
  where
    at : (c : Bool) → (if c then in_odd_neighbourhood s A v else A v) ≡ b
    at true = p
    at false = q

empty_at : (s : Seen) (v : ℕ) (A : ℕ → Bool) → ((x : ℕ) → A x ≡ false) → own_at s v A ≡ false
empty_at s v A none = either_at s v A false (masked-none (s.adjacent v) s.ids A (λ x within. ap (λ b. s.adjacent v x && b) (none x) ∙ and-false (s.adjacent v x))) (none v)

own-xor : (s : Seen) (v : ℕ) (A B : ℕ → Bool) → own_at s v (λ x. xor (A x) (B x)) ≡ xor (own_at s v A) (own_at s v B)
unfolding own_at
own-xor s v A B = at (odd_in (s.plane v))
  where
    at : (c : Bool) → (if c then in_odd_neighbourhood s (λ x. xor (A x) (B x)) v else xor (A v) (B v)) ≡ xor (if c then in_odd_neighbourhood s A v else A v) (if c then in_odd_neighbourhood s B v else B v)
    at true = odd-xor s A B v
    at false = refl

own-picked : (s : Seen) (v : ℕ) (picked : Bool) (A : ℕ → Bool) → own_at s v (λ x. picked && A x) ≡ picked && own_at s v A
own-picked s v true A = refl
own-picked s v false A = empty_at s v (λ x. false) (λ x. refl)

own-sum : (s : Seen) (v : ℕ) (sets : ℕ → ℕ → Bool) (us : List ℕ) (set : List Bool) →
    own_at s v (sum_at (map sets us) set) ≡ sum_at (map (λ u w. own_at s w (sets u)) us) set v
own-sum s v sets [] set = empty_at s v (λ x. false) (λ x. refl)
own-sum s v sets (u ∷ us) [] = empty_at s v (λ x. false) (λ x. refl)
own-sum s v sets (u ∷ us) (picked ∷ set) =
    own-xor s v (λ x. picked && sets u x) (sum_at (map sets us) set) ∙ ap₂ xor (own-picked s v picked (sets u)) (own-sum s v sets us set)

own_there : (s : Seen) (before : ℕ → ℕ → Bool) (v : ℕ) (A : ℕ → Bool) → Corrects s before v A → own_at s v A ≡ true
unfolding own_at
own_there s before v A a = at (s.plane v) a.inside a.odd_there
  where
    at : (plane : Plane) → A v ≡ inside_in plane → in_odd_neighbourhood s A v ≡ odd_in plane → (if odd_in plane then in_odd_neighbourhood s A v else A v) ≡ true
    at XY inside odd_there = odd_there
    at XZ inside odd_there = odd_there
    at YZ inside odd_there = inside

not_before : (s : Seen) (before : ℕ → ℕ → Bool) (u v : ℕ) (A : ℕ → Bool) → Corrects s before u A → member v s.ids ≡ true → v ≢ u → before u v ≡ false → own_at s v A ≡ false
not_before s before u v A a within ne none =
    either_at s v A false
    (false_from_ne_true (in_odd_neighbourhood s A v) (λ t. true≢false (sym (a.odd_order v within t ne) ∙ none)))
    (false_from_ne_true (A v) (λ t. true≢false (sym (a.order v t ne) ∙ none)))

-- ---- in a flow

-- what stands in an order up to u doesn't come after it
not_later : (before vs : List ℕ) (v u : ℕ) → member u before ≡ false → u ≢ v → is_later (before ++ v ∷ vs) u v ≡ false
not_later [] vs v u out ne = ap (λ b. not b && (eqb u v || is_later vs u v)) (eqb-self v)
not_later (x ∷ before) vs v u out ne =
    by_test (eqb v x)
    (λ t. ap (λ b. not b && (eqb u x || is_later (before ++ v ∷ vs) u v)) t)
    (λ f. ap₂ (λ a b. not a && (b || is_later (before ++ v ∷ vs) u v)) f (or-left _ _ out) ∙ not_later before vs v u (or-right _ _ out) ne)

-- the sets of the vertices from some place of the order on
triangular : (s : Seen) (table : List Correction) (f : FlowAsFunctions s table) (before vs : List ℕ) → before ++ vs ≡ order_of table → Distinct vs →
    ((w : ℕ) → member w vs ≡ true → member w before ≡ false) → IsTriangular (λ u w. own_at s w (is_in (set_of table u))) vs
triangular s table f before [] cut d out = tt
triangular s table f before (v ∷ vs) cut d out = (
  own_there s (is_later (order_of table)) v (is_in (set_of table v)) (corrects v (member-here v vs)),
  λ u there.
      let ne : u ≢ v = λ e. true≢false (sym (ap (λ x. member x vs) (sym e) ∙ there) ∙ d.0) in
      not_before s (is_later (order_of table)) u v (is_in (set_of table u)) (corrects u (member-there u v vs there))
      (live s table f v (listed v (member-here v vs))) (λ e. ne (sym e))
      (ap (λ l. is_later l u v) (sym cut) ∙ not_later before vs v u (out u (member-there u v vs there)) ne),
  triangular s table f (before ++ v ∷ []) vs (append_assoc before (v ∷ []) vs ∙ cut) d.1
      (λ w there. member-append w before (v ∷ [])
      ∙ ap₂ (λ a b. a || (b || false)) (out w (member-there w v vs there)) (ne_eqb w v (λ e. true≢false (sym (ap (λ x. member x vs) (sym e) ∙ there) ∙ d.0)))),
)
  where
    listed : (w : ℕ) → member w (v ∷ vs) ≡ true → member w (order_of table) ≡ true
    listed w there = ap (member w) (sym cut) ∙ member-append w before (v ∷ vs) ∙ ap (λ b. member w before || b) there ∙ or-true (member w before)

    corrects : (w : ℕ) → member w (v ∷ vs) ≡ true → Corrects s (is_later (order_of table)) w (is_in (set_of table w))
    corrects w there = f.corrects w (listed w there)

module _ (g : Graph) (table : List Correction) (wf : WellFormed g) (flow : IsFlow g table) (equal : length g.inputs ≡ length g.outputs) where
  f : FlowAsFunctions (seen g) table
  f = Flows-from (seen g) table flow

  -- the vertices that are no inputs
  abbrev columns : List ℕ
  columns = filter (λ v. not (member v (end_vertices g.inputs))) (ids g.vertices)

  distinct_columns : Distinct columns
  distinct_columns = distinct_filter _ (ids g.vertices) (distinct g wf)

  as_many : length columns ≤ length (order_of table)
  as_many =
      omega (
        arith,
        length-places g.inputs,
        length-places g.outputs,
        equal,
        few_inside (columns ++ end_vertices g.inputs) (ids g.vertices) apart inside,
        length-append columns (end_vertices g.inputs),
        few_inside (ids g.vertices) (order_of table ++ end_vertices g.outputs) (distinct g wf) sorted,
        length-append (order_of table) (end_vertices g.outputs),
      )
    where
      apart : Distinct (columns ++ end_vertices g.inputs)
      apart =
          distinct_both columns (end_vertices g.inputs) distinct_columns (Distinct-different (end_vertices g.inputs) wf.inputs.one_each)
          (λ w there. not_true (member w (end_vertices g.inputs)) (and-right (member w (ids g.vertices)) _ (sym (member-filter _ (ids g.vertices) w) ∙ there)))
        where
          not_true : (b : Bool) → not b ≡ true → b ≡ false
          not_true true e = sym e
          not_true false e = refl

      inside : (w : ℕ) → member w (columns ++ end_vertices g.inputs) ≡ true → member w (ids g.vertices) ≡ true
      inside w there =
          by_test (member w (end_vertices g.inputs))
          (λ t. all_at (λ u. member u (ids g.vertices)) (end_vertices g.inputs) w wf.inputs.there t)
          (λ n. and-left _ _ (sym (member-filter _ (ids g.vertices) w) ∙ sym (or-false (member w columns)) ∙ sym (ap (λ b. member w columns || b) n) ∙ sym (member-append w columns (end_vertices g.inputs)) ∙ there))

      sorted : (w : ℕ) → member w (ids g.vertices) ≡ true → member w (order_of table ++ end_vertices g.outputs) ≡ true
      sorted w within =
          member-append w (order_of table) (end_vertices g.outputs) ∙ ap (λ b. b || member w (end_vertices g.outputs)) (f.non_outputs w ∙ ap (λ b. b && not (member w (end_vertices g.outputs))) within)
          ∙ one_of (member w (end_vertices g.outputs))
        where
          one_of : (b : Bool) → (not b || b) ≡ true
          one_of true = refl
          one_of false = refl

  module _ (set : ℕ → Bool) (outputs : (w : ℕ) → set w ≡ true → (member w (end_vertices g.outputs) ≡ true) × (member w (end_vertices g.inputs) ≡ false))
      (even : (v : ℕ) → member v (ids g.vertices) ≡ true → member v (end_vertices g.outputs) ≡ false → in_odd_neighbourhood (seen g) set v ≡ false) where
    abbrev sets : ℕ → ℕ → Bool
    sets u = is_in (set_of table u)

    -- nothing stands outside the columns
    within : (A : ℕ → Bool) → ((x : ℕ) → A x ≡ true → member x (ids g.vertices) ≡ true) → ((x : ℕ) → A x ≡ true → member x (end_vertices g.inputs) ≡ false) →
        (x : ℕ) → member x columns ≡ false → A x ≡ false
    within A there inner x out =
        false_from_ne_true (A x)
        (λ t. true≢false (sym (member-filter _ (ids g.vertices) x ∙ ap₂ (λ a b. a && not b) (there x t) (inner x t)) ∙ out))

    independent : (w : ℕ) → set w ≡ true → AreIndependent (set ∷ map sets (order_of table)) columns
    independent w here [] size sums k = refl
    independent w here (picked ∷ picks) size sums k = each_unset picked picks first none k
      where
        every : (x : ℕ) → sum_at (set ∷ map sets (order_of table)) (picked ∷ picks) x ≡ false
        every x =
            by_test (member x columns) (sums x)
            (λ out. ap₂ (λ a b. xor (picked && a) b)
            (within set (λ y t. all_at (λ u. member u (ids g.vertices)) (end_vertices g.outputs) y wf.outputs.there (outputs y t).0) (λ y t. (outputs y t).1) x out)
            (unset_column sets (order_of table) picks x (λ u there. within (sets u) (f.corrects u there).members (f.corrects u there).input x out))
            ∙ ap (λ b. xor b false) (and-false picked))

        own_set : (v : ℕ) → member v (order_of table) ≡ true → own_at (seen g) v set ≡ false
        own_set v there =
            let both = sym (f.non_outputs v) ∙ there in
            let inner : member v (end_vertices g.outputs) ≡ false = by_test (member v (end_vertices g.outputs)) (λ t. absurd (true≢false (sym (and-right (member v (ids g.vertices)) _ both) ∙ ap not t))) (λ n. n) in
            either_at (seen g) v set false (even v (and-left _ _ both) inner) (false_from_ne_true (set v) (λ t. true≢false (sym (outputs v t).0 ∙ inner)))

        none : (k : ℕ) → bit picks k ≡ false
        none =
            none_picked (λ u x. own_at (seen g) x (sets u)) (order_of table) picks (triangular (seen g) table f [] (order_of table) refl f.each_once (λ u there. refl))
            (omega (arith, size, length-map (order_of table) sets))
            (λ v there.
            sym (own-sum (seen g) v sets (order_of table) picks)
            ∙ sym (ap (λ b. xor b (own_at (seen g) v (sum_at (map sets (order_of table)) picks)))
            (own-picked (seen g) v picked set ∙ ap (λ b. picked && b) (own_set v there) ∙ and-false picked))
            ∙ sym (own-xor (seen g) v (λ x. picked && set x) (sum_at (map sets (order_of table)) picks))
            ∙ empty_at (seen g) v _ every)

        first : picked ≡ false
        first = sym (ap₂ (λ a b. xor (picked && a) b) here (unpicked (map sets (order_of table)) picks w none) ∙ alone picked) ∙ every w

    pub empty : (w : ℕ) → set w ≡ false
    empty w =
        false_from_ne_true (set w)
        (λ here.
        let few = few_rows (suc (length (order_of table))) (set ∷ map sets (order_of table)) columns (ap suc (length-map (order_of table) sets)) distinct_columns (independent w here) in
        let most = as_many in
        absurd (omega (arith, few, most)))
