-- The sum of a graph as a form: an adjacency in place of the edge list, any function of the labels in place of
-- the ends, and one label summed after the other. A vertex comes to the front, and is summed out there.
use Rattle.std.proofs.Common.{◌≡◌, refl, sym, ◌∙◌, ap, ap₂, ℕ, suc, Bool, true, false, ◌&&◌, eqb, List, [], ◌∷◌, map, length, true≢false}
use Rattle.zx_model.specs.Bits.{xor, member}
use Rattle.zx_model.specs.Number.{Number, add, mul, sign}
use Rattle.zx_model.specs.Sums.{total, all_labels, label_of, labelled, over, sum_over}
use Rattle.zx_model.proofs.Ring.{mul-sign, mul_left_comm, expand}
use Rattle.zx_calculus.specs.Parity.{masked}
use Rattle.zx_calculus.specs.Internal.Pairs.{quad}
use Rattle.zx_calculus.specs.Graph.{Kind, Vertex, End, Graph, ids, kind_of, joined, end_vertices, without, WellFormed}
use Rattle.zx_calculus.specs.Sum.{factor, vertex_product, end_product, end_factor, term, graph_sum}
use Rattle.zx_calculus.proofs.Ids.{by_equal, removed, Distinct, Distinct-rising, Symmetric, quad_front, or-left, or-right, apart_of_member}
use Rattle.zx_calculus.proofs.Parity.{masked_labels, quad_labels}
use Rattle.zx_calculus.proofs.Edges.{edge_product_is}
use Rattle.zx_model.proofs.SumLemmas.{all_lists, sum_over_same, labelled-same, labelled-other}
use Rattle.zx_calculus.proofs.Labels.{sum_over_front}

abbrev pub value : (ℕ → ℕ → Bool) → ((ℕ → Bool) → Number) → List Vertex → (ℕ → Bool) → Number
value a e vs label = mul (vertex_product vs label) (mul (sign (quad a (ids vs) label)) (e label))

abbrev pub form : (ℕ → ℕ → Bool) → ((ℕ → Bool) → Number) → List Vertex → Number
form a e vs = sum_over (ids vs) (value a e vs)

-- what the ends make of the labels
abbrev pub at_ends : List End → List End → List Bool → List Bool → (ℕ → Bool) → Number
at_ends inputs outputs x y label = mul (end_product inputs x label) (end_product outputs y label)

pub length-ids : (vs : List Vertex) → length (ids vs) ≡ length vs
length-ids [] = refl
length-ids (v ∷ vs) = ap (λ n. suc n) (length-ids vs)

pub sum_is_form : (g : Graph) (x y : List Bool) → WellFormed g → graph_sum g x y ≡ form (joined g.edges) (at_ends g.inputs g.outputs x y) g.vertices
sum_is_form g x y w =
    ap (λ n. total (map (λ hs. term g x y (label_of (ids g.vertices) hs)) (all_labels n))) (sym (length-ids g.vertices))
    ∙ all_lists (ids g.vertices) (term g x y)
    ∙ sum_over_same (ids g.vertices) _ _
    (λ label. ap (λ p. mul (vertex_product g.vertices label) (mul p (at_ends g.inputs g.outputs x y label)))
    (edge_product_is (ids g.vertices) g.edges label (Distinct-rising (ids g.vertices) w.vertices_rising) w.edges))

pub ids-without : (u : ℕ) (vs : List Vertex) → ids (without u vs) ≡ removed u (ids vs)
ids-without u [] = refl
ids-without u (v ∷ vs) = by_equal u v.id (λ t e. rw t (ids-without u vs)) (λ f n. rw f (ap (λ r. v.id ∷ r) (ids-without u vs)))

pub without-absent : (u : ℕ) (vs : List Vertex) → member u (ids vs) ≡ false → without u vs ≡ vs
without-absent u [] h = refl
without-absent u (v ∷ vs) h =
    let apart : eqb u v.id ≡ false = or-left _ _ h in
    rw apart (ap (λ r. v ∷ r) (without-absent u vs (or-right _ _ h)))

-- the list with the vertex u first
abbrev pub at_front : ℕ → List Vertex → List Vertex
at_front u vs = record { id = u; kind = kind_of vs u } ∷ without u vs

pub vertex_product_front : (u : ℕ) (vs : List Vertex) (label : ℕ → Bool) → Distinct (ids vs) → member u (ids vs) ≡ true → vertex_product vs label ≡ vertex_product (at_front u vs) label
vertex_product_front u [] label d h = absurd (true≢false (sym h))
vertex_product_front u (v ∷ vs) label d h =
    by_equal u v.id
    (λ t e. rw (t, without-absent u vs (ap (λ w. member w (ids vs)) e ∙ d.0)) (ap (λ w. mul (factor v.kind (label w)) (vertex_product vs label)) (sym e)))
    (λ f n. let there : member u (ids vs) ≡ true = rw f at h in
    rw f (ap (mul (factor v.kind (label v.id))) (vertex_product_front u vs label d.1 there) ∙ mul_left_comm _ _ _))

pub form_front : (a : ℕ → ℕ → Bool) (e : (ℕ → Bool) → Number) (u : ℕ) (vs : List Vertex) → Symmetric a → Distinct (ids vs) → member u (ids vs) ≡ true → form a e vs ≡ form a e (at_front u vs)
form_front a e u vs s d h =
    sum_over_front u (ids vs) (value a e vs) d h
    ∙ ap (λ r. sum_over (u ∷ r) (value a e vs)) (sym (ids-without u vs))
    ∙ sum_over_same (u ∷ ids (without u vs)) _ _
    (λ label. ap₂ (λ p q. mul p (mul (sign q) (e label))) (vertex_product_front u vs label d h)
    (quad_front a u (ids vs) label s d h ∙ ap (λ r. quad a (u ∷ r) label) (sym (ids-without u vs))))

-- a function of the labels that doesn't look at u
abbrev pub Ignores : ((ℕ → Bool) → Number) → ℕ → Type 0
Ignores e u = (label : ℕ → Bool) (h : Bool) → e (labelled label u h) ≡ e label

labels_apart : (u : ℕ) (vs : List ℕ) (label : ℕ → Bool) (h : Bool) → member u vs ≡ false → (p : ℕ) → member p vs ≡ true → labelled label u h p ≡ label p
labels_apart u vs label h absent p there = labelled-other label u h p (apart_of_member p u vs there absent)

pub masked-labelled : (n : ℕ → Bool) (u : ℕ) (vs : List ℕ) (label : ℕ → Bool) (h : Bool) → member u vs ≡ false → masked n vs (labelled label u h) ≡ masked n vs label
masked-labelled n u vs label h absent = masked_labels n vs (labelled label u h) label (labels_apart u vs label h absent)

pub quad-labelled : (a : ℕ → ℕ → Bool) (u : ℕ) (vs : List ℕ) (label : ℕ → Bool) (h : Bool) → member u vs ≡ false → quad a vs (labelled label u h) ≡ quad a vs label
quad-labelled a u vs label h absent = quad_labels a vs (labelled label u h) label (labels_apart u vs label h absent)

pub vertex_product-labelled : (u : ℕ) (vs : List Vertex) (label : ℕ → Bool) (h : Bool) → member u (ids vs) ≡ false → vertex_product vs (labelled label u h) ≡ vertex_product vs label
vertex_product-labelled u [] label h absent = refl
vertex_product-labelled u (v ∷ vs) label h absent =
    let apart : eqb u v.id ≡ false = or-left _ _ absent in
    ap₂ (λ b p. mul (factor v.kind b) p)
    (labelled-other label u h v.id (λ e. true≢false (sym (eqb_of u v.id (sym e)) ∙ apart)))
    (vertex_product-labelled u vs label h (or-right _ _ absent))
  where
    eqb_of : (p q : ℕ) → p ≡ q → eqb p q ≡ true
    eqb_of p q e = by_equal p q (λ t s. t) (λ f n. absurd (n e))

pub end_product-labelled : (u : ℕ) (ends : List End) (bits : List Bool) (label : ℕ → Bool) (h : Bool) → member u (end_vertices ends) ≡ false → end_product ends bits (labelled label u h) ≡ end_product ends bits label
end_product-labelled u [] bits label h absent = refl
end_product-labelled u (e ∷ es) [] label h absent = refl
end_product-labelled u (e ∷ es) (b ∷ bits) label h absent =
    let apart : eqb u e.vertex ≡ false = or-left _ _ absent in
    ap₂ (λ l p. mul (end_factor e.hadamard l b) p)
    (labelled-other label u h e.vertex (λ q. by_equal u e.vertex (λ t s. true≢false (sym t ∙ apart)) (λ f n. n (sym q))))
    (end_product-labelled u es bits label h (or-right _ _ absent))

pub at_ends-ignores : (inputs outputs : List End) (x y : List Bool) (u : ℕ) → member u (end_vertices inputs) ≡ false → member u (end_vertices outputs) ≡ false → Ignores (at_ends inputs outputs x y) u
at_ends-ignores inputs outputs x y u no_input no_output label h =
    ap₂ mul (end_product-labelled u inputs x label h no_input) (end_product-labelled u outputs y label h no_output)

-- the terms of the two labels of u, with the product and the sign of the rest taken out
out_step : (f k p q m c d : Number) → add (mul (mul f p) (mul q c)) (mul (mul k p) (mul (mul m q) d)) ≡ mul p (mul q (add (mul f c) (mul (mul k m) d)))
out_step f k p q m c d = simp expand

pub over_value : (a : ℕ → ℕ → Bool) (e : (ℕ → Bool) → Number) (kind : Kind) (u : ℕ) (ws : List Vertex) (label : ℕ → Bool) → member u (ids ws) ≡ false →
    over u (value a e (record { id = u; kind = kind } ∷ ws)) label
    ≡ mul (vertex_product ws label) (mul (sign (quad a (ids ws) label))
    (add (mul (factor kind false) (e (labelled label u false))) (mul (mul (factor kind true) (sign (masked (a u) (ids ws) label))) (e (labelled label u true)))))
over_value a e kind u ws label absent =
    ap₂ add (at false) (at true ∙ ap (λ s. mul (mul (factor kind true) (vertex_product ws label)) (mul s (e (labelled label u true)))) (sym (mul-sign _ _)))
    ∙ out_step _ _ _ _ _ _ _
  where
    at : (h : Bool) → value a e (record { id = u; kind = kind } ∷ ws) (labelled label u h)
        ≡ mul (mul (factor kind h) (vertex_product ws label)) (mul (sign (xor (h && masked (a u) (ids ws) label) (quad a (ids ws) label))) (e (labelled label u h)))
    at h =
        ap₂ (λ b p. mul (mul (factor kind b) p) (mul (sign (xor (b && masked (a u) (ids ws) (labelled label u h)) (quad a (ids ws) (labelled label u h)))) (e (labelled label u h))))
        (labelled-same label u h) (vertex_product-labelled u ws label h absent)
        ∙ ap₂ (λ m q. mul (mul (factor kind h) (vertex_product ws label)) (mul (sign (xor (h && m) q)) (e (labelled label u h))))
        (masked-labelled (a u) u (ids ws) label h absent) (quad-labelled a u (ids ws) label h absent)

-- the Hadamard transform of a vertex's factor, at the parity of its neighbours' labels
abbrev pub transform : Kind → Bool → Number
transform kind m = add (factor kind false) (mul (factor kind true) (sign m))

take_common : (p q f k m c : Number) → mul p (mul q (add (mul f c) (mul (mul k m) c))) ≡ mul (add f (mul k m)) (mul p (mul q c))
take_common p q f k m c = simp expand

pub sum_out : (a : ℕ → ℕ → Bool) (e : (ℕ → Bool) → Number) (kind : Kind) (u : ℕ) (ws : List Vertex) → Ignores e u → member u (ids ws) ≡ false →
    form a e (record { id = u; kind = kind } ∷ ws) ≡ sum_over (ids ws) (λ label. mul (transform kind (masked (a u) (ids ws) label)) (value a e ws label))
sum_out a e kind u ws ignores absent =
    sum_over_same (ids ws) _ _
    (λ label. over_value a e kind u ws label absent
    ∙ ap₂ (λ c d. mul (vertex_product ws label) (mul (sign (quad a (ids ws) label)) (add (mul (factor kind false) c) (mul (mul (factor kind true) (sign (masked (a u) (ids ws) label))) d))))
    (ignores label false) (ignores label true)
    ∙ take_common _ _ _ _ _ _)
