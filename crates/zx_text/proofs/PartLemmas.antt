-- A graph whose ids are 0, 1, 2 and so on, and one more vertex, edge or end of it.
use Rattle.std.proofs.Common.{◌≡◌, ℕ, ◌+◌, ◌*◌, ◌<◌, ◌≤◌, suc, zero, Bool, true, false, eqb, ltb, nat_le, ◌||◌, ◌&&◌, ◌⊎◌, List, [], ◌∷◌, ◌++◌, length, refl, sym, ap, ap₂, ◌∙◌, subst, ltb-true, ltb-false, le-ltb, lt-ltb, true≢false, arith}
use Rattle.std.specs.List.{list_all, range_with_len}
use Rattle.zx_model.specs.Bits.{member, xor}
use Rattle.zx_model.proofs.BitLemmas.{and_comm, and-false}
use Rattle.zx_calculus.specs.Graph.{Plane, Vertex, Edge, End, Graph, WellFormed, IsVertex, ids, insert_vertex, in_order, edge_before, joins, joined}
use Rattle.zx_calculus.specs.Worked.{vertex}
use Rattle.zx_calculus.specs.Splits.{least_free, least_free_from}
use Rattle.zx_calculus.specs.Edits.{IsToggle, is_pair}
use Rattle.zx_calculus.proofs.Ids.{by_test, by_equal, eqb-self, and-left, and-right, or-left, or-right}
use Rattle.zx_calculus.proofs.Edges.{not_later, edge_before-true}
use Rattle.zx_calculus.proofs.EdgeLists.{edges_ext}
use Rattle.zx_calculus.proofs.Kept.{both}
use Rattle.zx_text.specs.Files.{Version, unit}
use Rattle.zx_text.specs.Internal.Stepping.{Part, vertex_added, edge_added, edge_fits, end_fits}
use Rattle.zx_text.specs.Internal.Parts.{IsNumbered, IsLast}

first_of : {A : Type 0} {x y : A} {xs ys : List A} → x ∷ xs ≡ y ∷ ys → x ≡ y
first_of e = cc

rest_of : {A : Type 0} {x y : A} {xs ys : List A} → x ∷ xs ≡ y ∷ ys → xs ≡ ys
rest_of e = cc

-- ---- lists that get longer at their end
pub all-last : {A : Type 0} (p : A → Bool) (xs : List A) (x : A) → list_all p xs ≡ true → p x ≡ true → list_all p (xs ++ x ∷ []) ≡ true
all-last p [] x all here = both _ _ here refl
all-last p (y ∷ ys) x all here = both _ _ (and-left _ _ all) (all-last p ys x (and-right _ _ all) here)

pub order-last : {A : Type 0} (before : A → A → Bool) (xs : List A) (x : A) → in_order before xs ≡ true → list_all (λ d. before d x) xs ≡ true
    → in_order before (xs ++ x ∷ []) ≡ true
order-last before [] x order all = refl
order-last before (y ∷ ys) x order all =
    both _ _ (all-last (before y) ys x (and-left _ _ order) (and-left _ _ all)) (order-last before ys x (and-right _ _ order) (and-right _ _ all))

-- ---- ids
pub in_range : (a n v : ℕ) → a ≤ v → v < a + n → member v (range_with_len a n) ≡ true
in_range a zero v low high = absurd (omega arith)
in_range a (suc n) v low high =
    by_equal v a
    (λ t e. rw t refl)
    (λ f apart. rw f (in_range (a + 1) n v (omega arith) (omega arith)))

pub live_below : (g : Graph) (k v : ℕ) → IsNumbered g k → v < k → IsVertex g v
live_below g k v numbered lt = ap (member v) numbered.ids ∙ in_range 0 (length g.vertices) v (omega arith) (omega (arith, numbered.count))

least-range : (a n : ℕ) → least_free_from a (range_with_len a n) ≡ a + n
least-range a zero = omega arith
least-range a (suc n) =
    let here = eqb-self a in
    let next : suc a ≡ a + 1 = omega arith in
    rw here (ap (λ k. least_free_from k (range_with_len (a + 1) n)) next ∙ least-range (a + 1) n ∙ (omega arith))

pub least_is : (g : Graph) (k v : ℕ) → IsNumbered g k → v ≡ least_free (ids g.vertices) → v ≡ k
least_is g k v numbered least = least ∙ ap least_free numbered.ids ∙ least-range 0 (length g.vertices) ∙ (omega (arith, numbered.count))

insert-last : (a : ℕ) (vs : List Vertex) (n : Vertex) → ids vs ≡ range_with_len a (length vs) → n.id ≡ a + length vs → insert_vertex n vs ≡ vs ++ n ∷ []
insert-last a [] n numbered e = refl
insert-last a (v ∷ vs) n numbered e =
    let here : v.id ≡ a = first_of numbered in
    let after : ltb n.id v.id ≡ false = le-ltb n.id v.id (omega (arith, here, e)) in
    rw after (ap (λ l. v ∷ l) (insert-last (a + 1) vs n (rest_of numbered) (omega (arith, e))))

pub ids-last : (a : ℕ) (vs : List Vertex) (n : Vertex) → ids vs ≡ range_with_len a (length vs) → n.id ≡ a + length vs
    → ids (vs ++ n ∷ []) ≡ range_with_len a (length (vs ++ n ∷ []))
ids-last a [] n numbered e = ap (λ i. i ∷ []) (e ∙ (omega arith))
ids-last a (v ∷ vs) n numbered e =
    ap₂ (λ i is. i ∷ is) (first_of numbered) (ids-last (a + 1) vs n (rest_of numbered) (omega (arith, e)))

pub length-last : {A : Type 0} (xs : List A) (x : A) → length (xs ++ x ∷ []) ≡ length xs + 1
length-last [] x = refl
length-last (y ∷ ys) x = omega (arith, length-last ys x)

pub numbered_more : (g h : Graph) (k : ℕ) (n : Vertex) → WellFormed h → IsNumbered g k → n.id ≡ k → h.vertices ≡ insert_vertex n g.vertices → IsNumbered h (k + 1)
numbered_more g h k n valid numbered e added =
    let at_end : h.vertices ≡ g.vertices ++ n ∷ [] = added ∙ insert-last 0 g.vertices n numbered.ids (omega (arith, e, numbered.count)) in
    record {
      valid = valid;
      count = sym (ap length at_end ∙ length-last g.vertices n ∙ (omega (arith, numbered.count)));
      ids = subst (λ vs. ids vs ≡ range_with_len 0 (length vs)) (sym at_end) (ids-last 0 g.vertices n numbered.ids (omega (arith, e, numbered.count)));
    }

pub vertex_taken : (phase : ℕ) (plane : Plane) (version : Version) → {p : Part} {s k i number turns : ℕ} {g h : Graph}
    → p ≡ record { section = s; graph = g } → IsNumbered g k → i ≡ least_free (ids g.vertices) → number ≡ k → turns ≡ phase * unit version
    → h ≡ record g { vertices = insert_vertex (vertex i plane turns) g.vertices }
    → record { section = s; graph = h } ≡ vertex_added version p number plane phase
vertex_taken phase plane version {p} {s} {k} {i} {number} {turns} {g} {h} view numbered least is_next turned added =
    let at : i ≡ number = least_is g k i numbered least ∙ sym is_next in
    let same : vertex i plane turns ≡ vertex number plane (phase * unit version) = ap₂ (λ j t. vertex j plane t) at turned in
    let all : insert_vertex (vertex i plane turns) g.vertices ≡ g.vertices ++ vertex number plane (phase * unit version) ∷ [] =
    insert-last 0 g.vertices (vertex i plane turns) numbered.ids (omega (arith, at, is_next, numbered.count)) ∙ ap (λ n. g.vertices ++ n ∷ []) same in
    ap (λ x. record { section = s; graph = x }) added
    ∙ ap (λ vs. record { section = s; graph = record g { vertices = vs } }) all
    ∙ sym (ap (λ q. vertex_added version q number plane phase) view)

-- ---- edges
not_both_at : (d e : Edge) (p q : ℕ) → d.lower < d.higher → e.lower < e.higher → edge_before d e ≡ true → joins e p q ≡ true → joins d p q ≡ false
not_both_at d e p q first later before at_e =
    by_test (joins d p q) (λ t. absurd (true≢false (sym at_e ∙ not_later d e p q first later before t))) (λ f. f)

apart : (es : List Edge) (e : Edge) (p q : ℕ) → list_all (λ d. ltb d.lower d.higher) es ≡ true → list_all (λ d. edge_before d e) es ≡ true → e.lower < e.higher
    → joins e p q ≡ true → joined es p q ≡ false
apart [] e p q firsts before later at_e = refl
apart (d ∷ es) e p q firsts before later at_e =
    let here = not_both_at d e p q (ltb-true d.lower d.higher (and-left _ _ firsts)) later (and-left _ _ before) at_e in
    rw here (apart es e p q (and-right _ _ firsts) (and-right _ _ before) later at_e)

joined-last : (es : List Edge) (e : Edge) (p q : ℕ) → joined (es ++ e ∷ []) p q ≡ (joined es p q || joins e p q)
joined-last [] e p q = or-none (joins e p q)
  where
    or-none : (b : Bool) → (b || false) ≡ b
    or-none true = refl
    or-none false = refl
joined-last (d ∷ es) e p q = ap (λ b. joins d p q || b) (joined-last es e p q) ∙ grouped (joins d p q) (joined es p q) (joins e p q)
  where
    grouped : (b c d : Bool) → (b || (c || d)) ≡ ((b || c) || d)
    grouped true c d = refl
    grouped false c d = refl

toggled_is : (there is_pair joins : Bool) → is_pair ≡ joins → (joins ≡ true → there ≡ false) → xor there is_pair ≡ (there || joins)
toggled_is true pair true e absent = absurd (cc (absent refl))
toggled_is true pair false e absent = rw e refl
toggled_is false pair joins e absent = e

pub edge_last : {g h : Graph} {a b : ℕ} → WellFormed g → WellFormed h → IsToggle g a b h → a < b
    → list_all (λ d. edge_before d (record { lower = a; higher = b })) g.edges ≡ true → h.edges ≡ g.edges ++ record { lower = a; higher = b } ∷ []
edge_last {g} {h} {a} {b} valid valid_new toggled lt before =
    let e : Edge = record { lower = a; higher = b } in
    edges_ext h.edges (g.edges ++ e ∷ []) valid_new.edges.lower_first (all-last (λ d. ltb d.lower d.higher) g.edges e valid.edges.lower_first (lt-ltb a b lt))
    valid_new.edges.rising (order-last edge_before g.edges e valid.edges.rising before)
    (λ p q other. toggled.edges p q
    ∙ toggled_is (joined g.edges p q) (is_pair a b p q) (joins e p q) (ap (λ x. (eqb p a && eqb q b) || x) (and_comm (eqb p b) (eqb q a)))
    (apart g.edges e p q valid.edges.lower_first before lt)
    ∙ sym (joined-last g.edges e p q))

pub toggle_at : {g h : Graph} {u v a b : ℕ} → u ≡ a → v ≡ b → IsToggle g u v h → IsToggle g a b h
toggle_at {g} {h} {u} {v} {a} {b} left right toggled = subst (λ q. IsToggle g a q h) right (subst (λ p. IsToggle g p v h) left toggled)

pub edge_taken : {p : Part} {s a b : ℕ} {g h : Graph} → p ≡ record { section = s; graph = g } → IsToggle g a b h
    → h.edges ≡ g.edges ++ record { lower = a; higher = b } ∷ [] → record { section = 1; graph = h } ≡ edge_added p a b
edge_taken {p} {s} {a} {b} {g} {h} view toggled last =
    ap (λ x. record { section = 1; graph = x }) same ∙ sym (ap (λ q. edge_added q a b) view)
  where
    same : h ≡ record g { edges = g.edges ++ record { lower = a; higher = b } ∷ [] }
    same = λ j. record { vertices = toggled.vertices j; edges = last j; inputs = toggled.frame.inputs j; outputs = toggled.frame.outputs j }

pub same_numbered : {g h : Graph} {k : ℕ} → WellFormed h → h.vertices ≡ g.vertices → IsNumbered g k → IsNumbered h k
same_numbered valid same numbered = record {
  valid = valid;
  count = numbered.count ∙ sym (ap length same);
  ids = subst (λ vs. ids vs ≡ range_with_len 0 (length vs)) (sym same) numbered.ids;
}

before_trans : (d l e : Edge) → edge_before d l ≡ true → edge_before l e ≡ true → edge_before d e ≡ true
before_trans d l e first second =
    let x : (d.lower < l.lower) ⊎ ((d.lower ≡ l.lower) × (d.higher < l.higher)) = edge_before-true d l first in
    let y : (l.lower < e.lower) ⊎ ((l.lower ≡ e.lower) × (l.higher < e.higher)) = edge_before-true l e second in
    by_test (edge_before d e) (λ t. t)
    (λ f. let no : ltb d.lower e.lower ≡ false = or-left _ _ f in
    let le : e.lower ≤ d.lower = ltb-false d.lower e.lower no in
    let same : d.lower ≡ e.lower = omega arith in
    let equal : eqb d.lower e.lower ≡ true = subst (λ i. eqb d.lower i ≡ true) same (eqb-self d.lower) in
    let off : ltb d.higher e.higher ≡ false = ap (λ b. b && ltb d.higher e.higher) (sym equal) ∙ or-right (ltb d.lower e.lower) _ f in
    let high : e.higher ≤ d.higher = ltb-false d.higher e.higher off in
    absurd (omega arith))

-- behind the last edge is behind all
pub after_last : (before : List Edge) (l e : Edge) → in_order edge_before (before ++ l ∷ []) ≡ true
    → edge_before l e ≡ list_all (λ d. edge_before d e) (before ++ l ∷ [])
after_last [] l e order = sym (and-one (edge_before l e))
  where
    and-one : (b : Bool) → (b && true) ≡ b
    and-one true = refl
    and-one false = refl
after_last (d ∷ ds) l e order =
    let others = after_last ds l e (and-right _ _ order) in
    let here : edge_before d l ≡ true = at-last (edge_before d) ds l (and-left _ _ order) in
    by_test (edge_before l e)
    (λ t. t ∙ sym (both _ _ (before_trans d l e here t) (sym others ∙ t)))
    (λ f. f ∙ sym (ap (λ b. edge_before d e && b) (sym others ∙ f) ∙ and-false (edge_before d e)))
  where
    at-last : (p : Edge → Bool) (xs : List Edge) (x : Edge) → list_all p (xs ++ x ∷ []) ≡ true → p x ≡ true
    at-last p [] x all = and-left _ _ all
    at-last p (y ∷ ys) x all = at-last p ys x (and-right _ _ all)

pub after_last_of : (a b : ℕ) → {g : Graph} {p : Part} {s : ℕ} {l : ℕ × ℕ} → p ≡ record { section = s; graph = g } → WellFormed g → IsLast g.edges l
    → edge_before (record { lower = l.0; higher = l.1 }) (record { lower = a; higher = b }) ≡ list_all (λ d. edge_before d (record { lower = a; higher = b })) p.graph.edges
after_last_of a b {g} {p} {s} {l} view valid last =
    after_last last.before (record { lower = l.0; higher = l.1 }) (record { lower = a; higher = b }) (subst (λ es. in_order edge_before es ≡ true) last.all valid.edges.rising)
    ∙ ap (list_all (λ d. edge_before d (record { lower = a; higher = b }))) (sym last.all)
    ∙ ap (λ (q : Part). list_all (λ d. edge_before d (record { lower = a; higher = b })) q.graph.edges) (sym view)

-- ---- what fits names vertices
pub edge_place : (a b : ℕ) → {p : Part} {s k : ℕ} {g : Graph} → p ≡ record { section = s; graph = g } → IsNumbered g k → edge_fits p a b ≡ true
    → (a < b) × ((b < k) × (list_all (λ d. edge_before d (record { lower = a; higher = b })) g.edges ≡ true))
edge_place a b {p} {s} {k} {g} view numbered fits =
    let all : edge_fits (record { section = s; graph = g }) a b ≡ true = subst (λ (q : Part). edge_fits q a b ≡ true) view fits in
    let others = and-right (nat_le s 1) _ all in
    let second = and-right (ltb a b) _ others in
    (ltb-true a b (and-left _ _ others), (omega (arith, ltb-true b (length g.vertices) (and-left _ _ second), numbered.count), and-right _ _ second))

pub end_live : (test : Bool) (ends : List End) (v : ℕ) → {g h : Graph} {k : ℕ} → h ≡ g → IsNumbered g k → (test && end_fits h ends v) ≡ true → IsVertex g v
end_live test ends v {g} {h} {k} same numbered fits =
    let others = and-right test _ fits in
    let inside = and-right (ltb (length ends) 1024) _ others in
    let lt : v < length h.vertices = ltb-true v (length h.vertices) (and-left _ _ inside) in
    live_below g k v numbered (omega (arith, lt, numbered.count, ap (λ (x : Graph). length x.vertices) same))
