-- A summand of the diagram, at labels that are the same on each class: the factors of the classes' vertices, the sign of
-- the edges between them, and the ends.
use Rattle.std.proofs.Common.{◌≡◌, ◌≢◌, refl, sym, ◌∙◌, ap, ap₂, subst, ℕ, suc, ◌+◌, ◌*◌, ◌%◌, ◌<◌, ◌≤◌, Bool, true, false, ◌&&◌, eqb, List, [], ◌∷◌, length, map, true≢false, arith}
use Rattle.std.specs.Prelude.{if◌then◌else◌}
use Rattle.std.specs.List.{All}
use Rattle.std.proofs.lemmas.List.Elements.{All-head, All-tail}
use Rattle.zx_model.specs.Phase.{turn, half_turn}
use Rattle.zx_model.specs.Bits.{xor, member, one_if}
use Rattle.zx_model.specs.Number.{Number, zero, one, mul, sign}
use Rattle.zx_model.specs.Sums.{total, all_labels, label_of, labelled, sum_over}
use Rattle.zx_model.proofs.Ring.{one-mul, mul-one, mul-sign, sorted}
use Rattle.zx_model.proofs.Powers.{root_power-zero, root_power-add, root_power-mod, root_power-half_turn}
use Rattle.zx_model.proofs.SumLemmas.{all_lists, labelled-same, labelled-other}
use Rattle.zx_calculus.specs.Sum.{spider, vertex_product, end_factor, end_product}
use Rattle.zx_calculus.specs.Internal.Pairs.{quad}
use Rattle.zx_calculus.specs.Edits.{is_pair}
use Rattle.zx_calculus.proofs.Ids.{by_equal, Distinct, or-left, or-right, eqb-self, member-filter}
use Rattle.zx_calculus.proofs.Parity.{quad-xor, masked-false}
use Rattle.zx_calculus.proofs.Edges.{quad_same}
use Rattle.zx_calculus.proofs.Pairs.{quad-pair}
use Rattle.zx_diagram.specs.declared.spider.Spider.{Spider}
use Rattle.zx_diagram.specs.declared.wire.Wire.{Wire}
use Rattle.zx_diagram.specs.declared.wire.Leg.{Leg}
use Rattle.zx_diagram.specs.Diagram.{Diagram, IsDiagram, IsEdgeOf, numbers, numbers_from}
use Rattle.zx_diagram.specs.Sum.{edge_mark, spider_product, wire_product, leg_product, term}
use Rattle.graph_like.specs.Classes.{NamesClasses}
use Rattle.graph_like.specs.LikeForm.{leaders, place, home_in, phases_at, loops_at, class_vertex, joined_oddly, ends_at, inputs_at, outputs_at}
use Rattle.graph_like.proofs.ClassLemmas.{length-numbers_from, member-numbers_from, least-least, edges_within}

-- labels by place
label_of-place : (vs : List ℕ) (hs : List Bool) (r k : ℕ) → label_of vs hs r ≡ label_of (numbers_from k (length vs)) hs (k + place r vs)
label_of-place [] hs r k = refl
label_of-place (v ∷ vs) [] r k = refl
label_of-place (v ∷ vs) (h ∷ hs) r k =
    by_equal r v
    (λ t e. rw t (sym (ap (labelled rest k h) (omega arith) ∙ labelled-same rest k h)))
    (λ t n. rw t
    (label_of-place vs hs r (suc k)
    ∙ ap rest (omega arith)
    ∙ sym (labelled-other rest k h (k + suc (place r vs)) (λ e. absurd (omega arith)))))
  where
    rest : ℕ → Bool
    rest = label_of (numbers_from (suc k) (length vs)) hs

pub sum_over-renamed : (vs : List ℕ) (least : ℕ → ℕ) (f : (ℕ → Bool) → Number) →
    sum_over vs (λ label. f (λ u. label (least u))) ≡ sum_over (numbers_from 0 (length vs)) (λ label. f (λ u. label (place (least u) vs)))
sum_over-renamed vs least f =
    sym (all_lists vs (λ label. f (λ u. label (least u))))
    ∙ ap (λ t. total (map t (all_labels (length vs)))) (λ i hs. f (λ u. at hs u i))
    ∙ ap (λ n. total (map (λ hs. f (λ u. label_of (numbers_from 0 (length vs)) hs (place (least u) vs))) (all_labels n))) (sym (length-numbers_from 0 (length vs)))
    ∙ all_lists (numbers_from 0 (length vs)) (λ label. f (λ u. label (place (least u) vs)))
  where
    at : (hs : List Bool) (u : ℕ) → label_of vs hs (least u) ≡ label_of (numbers_from 0 (length vs)) hs (place (least u) vs)
    at hs u = label_of-place vs hs (least u) 0 ∙ ap (label_of (numbers_from 0 (length vs)) hs) (omega arith)

-- phases
spider-add : (j k : ℕ) (h : Bool) → spider (j + k) h ≡ mul (spider j h) (spider k h)
spider-add j k true = root_power-add j k
spider-add j k false = sym (one-mul one)

spider-mod : (k : ℕ) (h : Bool) → spider (k % turn) h ≡ spider k h
spider-mod k true = root_power-mod k
spider-mod k false = refl

pub spider-zero : (h : Bool) → spider 0 h ≡ one
spider-zero true = root_power-zero
spider-zero false = refl

-- the product of the spiders' factors, with these phases
abbrev pub phase_product : (ℕ → ℕ) → List ℕ → (ℕ → Bool) → Number
phase_product phase [] label = one
phase_product phase (p ∷ ps) label = mul (spider (phase p) (label p)) (phase_product phase ps label)

swap_inner : (a b c d : Number) → mul (mul a b) (mul c d) ≡ mul (mul a c) (mul b d)
swap_inner a b c d = simp sorted

phase_product-add : (j k : ℕ → ℕ) (ps : List ℕ) (label : ℕ → Bool) →
    phase_product (λ p. j p + k p) ps label ≡ mul (phase_product j ps label) (phase_product k ps label)
phase_product-add j k [] label = sym (one-mul one)
phase_product-add j k (p ∷ ps) label =
    ap₂ mul (spider-add (j p) (k p) (label p)) (phase_product-add j k ps label) ∙ swap_inner _ _ _ _

phase_product-zero : (ps : List ℕ) (label : ℕ → Bool) → phase_product (λ p. 0) ps label ≡ one
phase_product-zero [] label = refl
phase_product-zero (p ∷ ps) label = ap₂ mul (spider-zero (label p)) (phase_product-zero ps label) ∙ one-mul one

-- one phase, at one vertex
abbrev at_one : ℕ → ℕ → ℕ → ℕ
at_one q k p = if eqb q p then k else 0

phase_product-absent : (q k : ℕ) (ps : List ℕ) (label : ℕ → Bool) → member q ps ≡ false → phase_product (at_one q k) ps label ≡ one
phase_product-absent q k [] label absent = refl
phase_product-absent q k (p ∷ ps) label absent =
    ap₂ mul (ap (λ b. spider (if b then k else 0) (label p)) (or-left _ _ absent) ∙ spider-zero (label p))
    (phase_product-absent q k ps label (or-right _ _ absent))
    ∙ one-mul one

phase_product-one : (q k : ℕ) (ps : List ℕ) (label : ℕ → Bool) → Distinct ps → member q ps ≡ true → phase_product (at_one q k) ps label ≡ spider k (label q)
phase_product-one q k [] label d there = absurd (true≢false (sym there))
phase_product-one q k (p ∷ ps) label d there =
    by_equal q p
    (λ t e. ap₂ mul (ap₂ (λ b r. spider (if b then k else 0) (label r)) t (sym e))
    (phase_product-absent q k ps label (ap (λ r. member r ps) e ∙ d.0))
    ∙ mul-one _)
    (λ t n. ap₂ mul (ap (λ b. spider (if b then k else 0) (label p)) t ∙ spider-zero (label p))
    (phase_product-one q k ps label d.1 (rw t at there))
    ∙ one-mul _)

spiders_fused : (home : ℕ → ℕ) (number : ℕ) (ss : List Spider) (ps : List ℕ) (label : ℕ → Bool) → Distinct ps →
    ((u : ℕ) → u < number + length ss → member (home u) ps ≡ true) →
    spider_product number ss (λ u. label (home u)) ≡ phase_product (λ p. phases_at home p number ss) ps label
spiders_fused home number [] ps label d there = sym (phase_product-zero ps label)
spiders_fused home number (s ∷ ss) ps label d there =
    ap₂ mul (sym (phase_product-one (home number) s.phase ps label d (there number (omega arith))))
    (spiders_fused home (suc number) ss ps label d (λ u low. there u (omega arith)))
    ∙ sym (phase_product-add (at_one (home number) s.phase) (λ p. phases_at home p (suc number) ss) ps label)

-- edges
pub quad-none : (vs : List ℕ) (label : ℕ → Bool) → quad (λ p q. false) vs label ≡ false
quad-none [] label = refl
quad-none (v ∷ vs) label =
    ap₂ xor (ap (λ m. label v && m) (masked-false vs label) ∙ and-false (label v)) (quad-none vs label)
  where
    and-false : (b : Bool) → (b && false) ≡ false
    and-false true = refl
    and-false false = refl

xor_self : (b : Bool) → xor b b ≡ false
xor_self true = refl
xor_self false = refl

-- what one edge between the classes of two vertices gives
one_edge : (m : Bool) (a b : ℕ) (ps vs : List ℕ) (label : ℕ → Bool) → Distinct ps → Distinct vs →
    member a ps ≡ true → member a vs ≡ true → member b vs ≡ true → (m ≡ false → a ≡ b) →
    end_factor m (label a) (label b)
    ≡ mul (phase_product (λ p. half_turn * one_if (m && (eqb a p && eqb b p))) ps label) (sign (quad (λ p q. m && is_pair a b p q) vs label))
one_edge false a b ps vs label dp dv a_in a_at b_at plain =
    ap (λ x. if x then zero else one) (ap (λ c. xor (label a) (label c)) (sym (plain refl)) ∙ xor_self (label a))
    ∙ sym (ap₂ (λ n t. mul n (sign t)) (phase_product-zero ps label) (quad-none vs label) ∙ one-mul one)
one_edge true a b ps vs label dp dv a_in a_at b_at plain =
    by_equal a b
    (λ t e. subst (λ c. sign (label a && label c) ≡ mul (phase_product (λ p. half_turn * one_if (eqb a p && eqb c p)) ps label) (sign (quad (is_pair a c) vs label))) e loop)
    (λ t n. sym (ap₂ (λ c s. mul c (sign s))
    (ap (λ k. phase_product k ps label) (λ i p. apart n p i) ∙ phase_product-zero ps label)
    (quad-pair a b vs label dv n a_at b_at)
    ∙ one-mul _))
  where
    half_if : (b : Bool) → half_turn * one_if (b && b) ≡ (if b then half_turn else 0)
    half_if true = refl
    half_if false = refl

    half_sign : (h : Bool) → sign (h && h) ≡ spider half_turn h
    half_sign true = sym root_power-half_turn
    half_sign false = refl

    no_loop : (p q : ℕ) → p ≢ q → is_pair a a p q ≡ false
    no_loop p q n =
        by_equal p a
        (λ t e. by_equal q a (λ s w. absurd (n (e ∙ sym w))) (λ s w. rw (t, s) refl))
        (λ t e. rw t refl)

    apart : a ≢ b → (p : ℕ) → half_turn * one_if (eqb a p && eqb b p) ≡ 0
    apart n p =
        by_equal a p
        (λ t e. by_equal b p (λ s w. absurd (n (e ∙ sym w))) (λ s w. rw (t, s) refl))
        (λ t e. rw t refl)

    loop : sign (label a && label a) ≡ mul (phase_product (λ p. half_turn * one_if (eqb a p && eqb a p)) ps label) (sign (quad (is_pair a a) vs label))
    loop =
        half_sign (label a)
        ∙ sym (ap₂ (λ c s. mul c (sign s))
        (ap (λ k. phase_product k ps label) (λ i p. half_if (eqb a p) i) ∙ phase_product-one a half_turn ps label dp a_in)
        (quad_same (is_pair a a) (λ p q. false) vs label dv (λ p q s t n. no_loop p q n) ∙ quad-none vs label)
        ∙ mul-one _)

wires_fused : (spiders : List Spider) (home : ℕ → ℕ) (n : ℕ) (es : List Wire) (ps vs : List ℕ) (label : ℕ → Bool) → Distinct ps → Distinct vs →
    ((u : ℕ) → u < n → member (home u) ps ≡ true) → ((u : ℕ) → u < n → member (home u) vs ≡ true) → All (IsEdgeOf n) es →
    All (λ edge. edge_mark spiders edge ≡ false → home edge.a ≡ home edge.b) es →
    wire_product spiders es (λ u. label (home u))
    ≡ mul (phase_product (λ p. half_turn * loops_at spiders home p es) ps label) (sign (quad (joined_oddly spiders home es) vs label))
wires_fused spiders home n [] ps vs label dp dv in_ps in_vs on plain =
    sym (ap₂ (λ c s. mul c (sign s)) (phase_product-zero ps label) (quad-none vs label) ∙ one-mul one)
wires_fused spiders home n (e ∷ es) ps vs label dp dv in_ps in_vs on plain =
    ap₂ mul
    (one_edge (edge_mark spiders e) (home e.a) (home e.b) ps vs label dp dv (in_ps e.a ends.0) (in_vs e.a ends.0) (in_vs e.b ends.1)
    (All-head (λ edge. edge_mark spiders edge ≡ false → home edge.a ≡ home edge.b) e es plain))
    (wires_fused spiders home n es ps vs label dp dv in_ps in_vs (All-tail (IsEdgeOf n) e es on)
    (All-tail (λ edge. edge_mark spiders edge ≡ false → home edge.a ≡ home edge.b) e es plain))
    ∙ swap_inner _ _ _ _
    ∙ ap₂ mul
    (sym (ap (λ k. phase_product k ps label) (λ i p. shared p i)
    ∙ phase_product-add (λ p. half_turn * one_if (edge_mark spiders e && (eqb (home e.a) p && eqb (home e.b) p))) (λ p. half_turn * loops_at spiders home p es) ps label))
    (mul-sign _ _ ∙ ap sign (sym (quad-xor (λ p q. edge_mark spiders e && is_pair (home e.a) (home e.b) p q) (joined_oddly spiders home es) vs label)))
  where
    ends : IsEdgeOf n e
    ends = All-head (IsEdgeOf n) e es on

    spread : (j k : ℕ) → half_turn * (j + k) ≡ half_turn * j + half_turn * k
    spread j k = omega arith

    shared : (p : ℕ) → half_turn * loops_at spiders home p (e ∷ es)
        ≡ half_turn * one_if (edge_mark spiders e && (eqb (home e.a) p && eqb (home e.b) p)) + half_turn * loops_at spiders home p es
    shared p = spread (one_if (edge_mark spiders e && (eqb (home e.a) p && eqb (home e.b) p))) (loops_at spiders home p es)

-- ends
legs_fused : (spiders : List Spider) (home : ℕ → ℕ) (legs : List Leg) (bits : List Bool) (label : ℕ → Bool) →
    leg_product spiders legs bits (λ u. label (home u)) ≡ end_product (ends_at spiders home legs) bits label
legs_fused spiders home [] bits label = refl
legs_fused spiders home (l ∷ ls) [] label = refl
legs_fused spiders home (l ∷ ls) (b ∷ bits) label = ap (mul _) (legs_fused spiders home ls bits label)

vertices_fused : (d : Diagram) (home : ℕ → ℕ) (ps : List ℕ) (label : ℕ → Bool) →
    vertex_product (map (class_vertex d home) ps) label
    ≡ phase_product (λ p. phases_at home p 0 d.spiders + half_turn * loops_at d.spiders home p d.edges) ps label
vertices_fused d home [] label = refl
vertices_fused d home (p ∷ ps) label = ap₂ mul (spider-mod _ (label p)) (vertices_fused d home ps label)

regroup : (a b s e : Number) → mul a (mul (mul b s) e) ≡ mul (mul a b) (mul s e)
regroup a b s e = simp sorted

pub fused_term : (d : Diagram) (home : ℕ → ℕ) (ps vs : List ℕ) (x y : List Bool) (label : ℕ → Bool) → IsDiagram d → Distinct ps → Distinct vs →
    ((u : ℕ) → u < length d.spiders → member (home u) ps ≡ true) → ((u : ℕ) → u < length d.spiders → member (home u) vs ≡ true) →
    All (λ edge. edge_mark d.spiders edge ≡ false → home edge.a ≡ home edge.b) d.edges →
    term d x y (λ u. label (home u))
    ≡ mul (vertex_product (map (class_vertex d home) ps) label) (mul (sign (quad (joined_oddly d.spiders home d.edges) vs label))
    (mul (end_product (inputs_at d home) x label) (end_product (outputs_at d home) y label)))
fused_term d home ps vs x y label w dp dv in_ps in_vs plain =
    ap₂ mul (spiders_fused home 0 d.spiders ps label dp (λ u low. in_ps u (omega arith)))
    (ap₂ mul (wires_fused d.spiders home (length d.spiders) d.edges ps vs label dp dv in_ps in_vs w.edges plain)
    (ap₂ mul (legs_fused d.spiders home d.inputs x label) (legs_fused d.spiders home d.outputs y label)))
    ∙ regroup _ _ _ _
    ∙ ap (λ v. mul v (mul (sign (quad (joined_oddly d.spiders home d.edges) vs label)) (mul (end_product (inputs_at d home) x label) (end_product (outputs_at d home) y label))))
    (sym (vertices_fused d home ps label
    ∙ phase_product-add (λ p. phases_at home p 0 d.spiders) (λ p. half_turn * loops_at d.spiders home p d.edges) ps label))

-- where spiders go
place-below : (r : ℕ) (vs : List ℕ) → member r vs ≡ true → place r vs < length vs
place-below r [] there = absurd (true≢false (sym there))
place-below r (v ∷ vs) there =
    by_equal r v (λ t e. rw t (omega arith)) (λ t n. rw t (later (place-below r vs (rw t at there))))
  where
    later : place r vs < length vs → suc (place r vs) < suc (length vs)
    later h = omega arith

pub home-below : (d : Diagram) (least : ℕ → ℕ) → NamesClasses d least → (u : ℕ) → u < length d.spiders → home_in d least u < length (leaders d least)
home-below d least c u low =
    let down : least u ≤ u = c.smallest u u (λ test same. refl) in
    let there : member (least u) (numbers d) ≡ true = member-numbers_from (least u) 0 (length d.spiders) (omega arith) (omega arith) in
    place-below (least u) (leaders d least)
    (member-filter (λ v. eqb (least v) v) (numbers d) (least u)
    ∙ ap₂ (λ a b. a && b) there (ap (λ r. eqb r (least u)) (least-least d least c u) ∙ eqb-self (least u)))

pub plain_home : (d : Diagram) (least : ℕ → ℕ) → NamesClasses d least →
    All (λ edge. edge_mark d.spiders edge ≡ false → home_in d least edge.a ≡ home_in d least edge.b) d.edges
plain_home d least c k other h = λ plain. ap (λ r. place r (leaders d least)) (edges_within d least c k other h plain)
