-- The sum of a graph with one of its interior vertices summed out.
use Rattle.std.proofs.Common.{◌≡◌, ◌≢◌, ◌⊎◌, inl, inr, refl, sym, ◌∙◌, ap, ℕ, ◌<◌, Bool, true, false, ltb, List, [], ◌∷◌, true≢false, ltb-true, arith}
use Rattle.std.specs.List.{list_all}
use Rattle.zx_model.specs.Bits.{member}
use Rattle.zx_model.specs.Number.{mul}
use Rattle.zx_model.specs.Sums.{sum_over}
use Rattle.zx_calculus.specs.Parity.{masked}
use Rattle.zx_calculus.specs.Graph.{Plane, XY, XZ, YZ, Vertex, Edge, Graph, ids, kind_of, plane_of, is_XY, is_YZ, joins, joined, end_vertices, without, WellFormed, IsVertex, Interior}
use Rattle.zx_calculus.specs.Sum.{graph_sum}
use Rattle.zx_calculus.proofs.Ids.{by_test, by_equal, Distinct, Distinct-rising, Distinct-removed, member-removed, and-left, and-right}
use Rattle.zx_calculus.proofs.Edges.{joined_comm, joins-true}
use Rattle.zx_calculus.proofs.Forms.{value, form, at_ends, at_ends-ignores, sum_is_form, form_front, sum_out, transform, ids-without, at_front}

pub distinct : (g : Graph) → WellFormed g → Distinct (ids g.vertices)
distinct g w = Distinct-rising (ids g.vertices) w.vertices_rising

pub Distinct-without : (u : ℕ) (vs : List Vertex) → Distinct (ids vs) → Distinct (ids (without u vs))
Distinct-without u vs d = rw (ids-without u vs) (Distinct-removed u (ids vs) d)

pub distinct_without : (g : Graph) (u : ℕ) → WellFormed g → Distinct (ids (without u g.vertices))
distinct_without g u w = Distinct-without u g.vertices (distinct g w)

pub member-without : (u : ℕ) (vs : List Vertex) → member u (ids (without u vs)) ≡ false
member-without u vs = ap (member u) (ids-without u vs) ∙ member-removed u (ids vs)

-- no edge joins a vertex with itself
pub joined-self : (es : List Edge) (p : ℕ) → list_all (λ e. ltb e.lower e.higher) es ≡ true → joined es p p ≡ false
joined-self [] p h = refl
joined-self (e ∷ es) p h =
    let first : e.lower < e.higher = ltb-true e.lower e.higher (and-left _ _ h) in
    let here : joins e p p ≡ false = by_test (joins e p p) (λ t. let x : ((p ≡ e.lower) × (p ≡ e.higher)) ⊎ ((p ≡ e.lower) × (p ≡ e.higher)) = joins-true e p p t in absurd (omega arith)) (λ f. f) in
    rw here (joined-self es p (and-right _ _ h))

pub no_loop : (g : Graph) (p : ℕ) → WellFormed g → joined g.edges p p ≡ false
no_loop g p w = joined-self g.edges p w.edges.lower_first

pub form_without : (g : Graph) (u : ℕ) (x y : List Bool) → WellFormed g → IsVertex g u → graph_sum g x y ≡ form (joined g.edges) (at_ends g.inputs g.outputs x y) (at_front u g.vertices)
form_without g u x y w there =
    sum_is_form g x y w ∙ form_front (joined g.edges) (at_ends g.inputs g.outputs x y) u g.vertices (joined_comm g.edges) (distinct g w) there

pub sum_without : (g : Graph) (u : ℕ) (x y : List Bool) → WellFormed g → IsVertex g u → Interior g u →
    graph_sum g x y ≡ sum_over (ids (without u g.vertices))
    (λ label. mul (transform (kind_of g.vertices u) (masked (joined g.edges u) (ids (without u g.vertices)) label)) (value (joined g.edges) (at_ends g.inputs g.outputs x y) (without u g.vertices) label))
sum_without g u x y w there interior =
    form_without g u x y w there
    ∙ sum_out (joined g.edges) (at_ends g.inputs g.outputs x y) (kind_of g.vertices u) u (without u g.vertices)
    (at_ends-ignores g.inputs g.outputs x y u interior.no_input interior.no_output) (member-without u g.vertices)

-- a vertex that isn't XY holds no end
no_end : (vs : List Vertex) (ends : List ℕ) (u : ℕ) → list_all (λ p. is_XY (kind_of vs p).plane) ends ≡ true → is_XY (kind_of vs u).plane ≡ false → member u ends ≡ false
no_end vs [] u h off = refl
no_end vs (p ∷ ps) u h off =
    by_equal u p (λ t e. absurd (true≢false (sym (and-left _ _ h) ∙ ap (λ w. is_XY (kind_of vs w).plane) (sym e) ∙ off)))
    (λ t n. rw t (no_end vs ps u (and-right _ _ h) off))

pub interior_of : (g : Graph) (u : ℕ) → WellFormed g → is_XY (plane_of g u) ≡ false → Interior g u
interior_of g u w off = record { no_input = no_end g.vertices (end_vertices g.inputs) u w.inputs.at_XY off; no_output = no_end g.vertices (end_vertices g.outputs) u w.outputs.at_XY off }

pub off_XY : (plane : Plane) → plane ≢ XY → is_XY plane ≡ false
off_XY XY n = absurd (n refl)
off_XY XZ n = refl
off_XY YZ n = refl

pub plane_XY : (plane : Plane) → is_XY plane ≡ true → plane ≡ XY
plane_XY XY h = refl
plane_XY XZ h = absurd (true≢false (sym h))
plane_XY YZ h = absurd (true≢false (sym h))

pub plane_YZ : (plane : Plane) → is_YZ plane ≡ true → plane ≡ YZ
plane_YZ XY h = absurd (true≢false (sym h))
plane_YZ XZ h = absurd (true≢false (sym h))
plane_YZ YZ h = refl

pub all_at : (p : ℕ → Bool) (xs : List ℕ) (u : ℕ) → list_all p xs ≡ true → member u xs ≡ true → p u ≡ true
all_at p [] u h there = absurd (true≢false (sym there))
all_at p (x ∷ xs) u h there =
    by_equal u x (λ t e. ap p e ∙ and-left _ _ h) (λ t n. let later : member u xs ≡ true = rw t at there in all_at p xs u (and-right _ _ h) later)

pub absent_from : (vs ps : List ℕ) (u : ℕ) → list_all (λ p. member p vs) ps ≡ true → member u vs ≡ false → member u ps ≡ false
absent_from vs ps u h absent = by_test (member u ps) (λ t. absurd (true≢false (sym (all_at (λ p. member p vs) ps u h t) ∙ absent))) (λ f. f)

-- no edge at an id that isn't a vertex
pub joined-absent : (vs : List ℕ) (es : List Edge) (p q : ℕ) → list_all (λ e. member e.lower vs) es ≡ true → list_all (λ e. member e.higher vs) es ≡ true → member p vs ≡ false → joined es p q ≡ false
joined-absent vs [] p q low high absent = refl
joined-absent vs (e ∷ es) p q low high absent =
    let here : joins e p q ≡ false = by_test (joins e p q) (λ t. absurd (contrary (joins-true e p q t))) (λ f. f) in
    rw here (joined-absent vs es p q (and-right _ _ low) (and-right _ _ high) absent)
  where
    contrary : ((p ≡ e.lower) × (q ≡ e.higher)) ⊎ ((q ≡ e.lower) × (p ≡ e.higher)) → ⊥
    contrary (inl s) = true≢false (sym (and-left _ _ low) ∙ ap (λ w. member w vs) (sym s.0) ∙ absent)
    contrary (inr s) = true≢false (sym (and-left _ _ high) ∙ ap (λ w. member w vs) (sym s.1) ∙ absent)
