-- The graph-like form of a diagram: there is one at most, and its sum is the diagram's times the factors of surplus ends.
use Rattle.std.proofs.Common.{◌≡◌, ◌≢◌, refl, sym, ◌∙◌, ap, ap₂, subst, ℕ, suc, zero as nought, ◌+◌, ◌<◌, ◌≤◌, Bool, true, false, ◌&&◌, ◌||◌, ltb, eqb, List, [], ◌∷◌, ◌++◌, length, map, arith, true≢false, lt-ltb}
use Rattle.std.specs.List.{All, list_all}
use Rattle.std.proofs.lemmas.List.Elements.{All-head, All-tail}
use Rattle.zx_model.specs.Bits.{xor, member}
use Rattle.zx_model.specs.Number.{Number, one, mul, sign}
use Rattle.zx_model.specs.Proportional.{Proportional}
use Rattle.zx_model.specs.Sums.{total, all_labels, label_of, labelled, sum_over}
use Rattle.zx_model.proofs.Ring.{one-mul, mul-one, mul_assoc, mul-sign, sorted, one_nonzero}
use Rattle.zx_model.proofs.Domain.{mul-nonzero}
use Rattle.zx_model.proofs.SumLemmas.{all_lists, sum_over_same, labelled-other}
use Rattle.zx_calculus.specs.Graph.{Vertex, End, Graph, ids, joined, end_vertices, in_order}
use Rattle.zx_calculus.specs.Sum as graph
use Rattle.zx_calculus.specs.Sum.{vertex_product, edge_product, end_product, graph_sum}
use Rattle.zx_calculus.specs.Parity.{masked}
use Rattle.zx_calculus.specs.Internal.Pairs.{quad}
use Rattle.zx_calculus.specs.Adjacency.{edges_of}
use Rattle.zx_calculus.specs.Edits.{is_pair}
use Rattle.zx_calculus.specs.Splits.{spider_of_phase_zero}
use Rattle.zx_calculus.proofs.Ids.{by_test, by_equal, Symmetric, member-there}
use Rattle.zx_calculus.proofs.Parity.{quad-xor, masked-same, masked-false}
use Rattle.zx_calculus.proofs.Edges.{edge_product_is, quad_same}
use Rattle.zx_calculus.proofs.EdgeLists.{joined-edges_of, OrderedEdges-edges_of}
use Rattle.zx_calculus.proofs.Forms.{Ignores, vertex_product-labelled, end_product-labelled}
use Rattle.zx_calculus.proofs.Splits.{is_pair_comm}
use Rattle.zx_diagram.specs.declared.spider.Spider.{Spider}
use Rattle.zx_diagram.specs.declared.wire.Wire.{Wire}
use Rattle.zx_diagram.specs.declared.wire.Leg.{Leg}
use Rattle.zx_diagram.specs.Diagram.{Diagram, IsDiagram, IsEdgeOf, numbers_from}
use Rattle.zx_diagram.specs.Sum.{edge_mark, term, diagram_sum}
use Rattle.graph_like.specs.Classes.{NamesClasses}
use Rattle.graph_like.specs.LikeForm.{leaders, home_in, class_vertex, joined_oddly, ends_at, placed_in, hangs, inputs_at, outputs_at, surplus, all_surplus, adjacent, like_graph, IsLikeForm}
use Rattle.graph_like.proofs.Summing.{sum_over-swapped}
use Rattle.graph_like.proofs.ClassLemmas.{member-numbers_from, Distinct-numbers_from, fused_sum}
use Rattle.graph_like.proofs.Fusion.{sum_over-renamed, spider-zero, fused_term, home-below, plain_home}
use Rattle.graph_like.proofs.Hanging.{AreBelow, hang_product, sign_hangs, hang_product-append, hang_product-labelled, surplus-below, absent-placed, surplus_scale, surplus_scale-nonzero, sum_out_surplus}

-- there is one at most
same_least : (d : Diagram) (l m : ℕ → ℕ) → NamesClasses d l → NamesClasses d m → (u : ℕ) → l u ≡ m u
same_least d l m a b u =
    let low : l u ≤ m u = a.smallest u (m u) (b.fused u) in
    let high : m u ≤ l u = b.smallest u (l u) (a.fused u) in
    omega arith

pub one_like_form : (d : Diagram) (g h : Graph) → IsLikeForm d g → IsLikeForm d h → g ≡ h
one_like_form d g h a b =
    a.graph
    ∙ ap (λ least. like_graph d (home_in d least) (length (leaders d least))) (λ i u. same_least d a.least b.least a.classes b.classes u i)
    ∙ sym b.graph

-- numbers in a row
pub numbers_from-append : (a c k : ℕ) → numbers_from a c ++ numbers_from (a + c) k ≡ numbers_from a (c + k)
numbers_from-append a nought k = ap₂ numbers_from (omega arith) (omega arith)
numbers_from-append a (suc c) k =
    let next : a + suc c ≡ suc a + c = omega arith in
    let all : suc (c + k) ≡ suc c + k = omega arith in
    ap (λ l. a ∷ l) (ap (λ n. numbers_from (suc a) c ++ numbers_from n k) next ∙ numbers_from-append (suc a) c k)
    ∙ ap (numbers_from a) all

all_above : (a k n : ℕ) → a < k → list_all (ltb a) (numbers_from k n) ≡ true
all_above a k nought low = refl
all_above a k (suc n) low = ap₂ (λ b c. b && c) (lt-ltb a k low) (all_above a (suc k) n (omega arith))

pub rising-numbers_from : (k n : ℕ) → in_order ltb (numbers_from k n) ≡ true
rising-numbers_from k nought = refl
rising-numbers_from k (suc n) = ap₂ (λ b c. b && c) (all_above k (suc k) n (omega arith)) (rising-numbers_from (suc k) n)

-- vertices
pub ids-append : (vs ws : List Vertex) → ids (vs ++ ws) ≡ ids vs ++ ids ws
ids-append [] ws = refl
ids-append (v ∷ vs) ws = ap (λ l. v.id ∷ l) (ids-append vs ws)

pub ids-classes : (d : Diagram) (home : ℕ → ℕ) (ps : List ℕ) → ids (map (class_vertex d home) ps) ≡ ps
ids-classes d home [] = refl
ids-classes d home (p ∷ ps) = ap (λ l. p ∷ l) (ids-classes d home ps)

pub ids-new : (ps : List ℕ) → ids (map spider_of_phase_zero ps) ≡ ps
ids-new [] = refl
ids-new (p ∷ ps) = ap (λ l. p ∷ l) (ids-new ps)

length-ids : (vs : List Vertex) → length (ids vs) ≡ length vs
length-ids [] = refl
length-ids (v ∷ vs) = ap (λ n. suc n) (length-ids vs)

vertex_product-append : (vs ws : List Vertex) (label : ℕ → Bool) → vertex_product (vs ++ ws) label ≡ mul (vertex_product vs label) (vertex_product ws label)
vertex_product-append [] ws label = sym (one-mul _)
vertex_product-append (v ∷ vs) ws label = ap (mul _) (vertex_product-append vs ws label) ∙ sym (mul_assoc _ _ _)

vertex_product-new : (ps : List ℕ) (label : ℕ → Bool) → vertex_product (map spider_of_phase_zero ps) label ≡ one
vertex_product-new [] label = refl
vertex_product-new (p ∷ ps) label = ap₂ mul (spider-zero (label p)) (vertex_product-new ps label) ∙ one-mul one

-- adjacency
pub joined_oddly_comm : (spiders : List Spider) (home : ℕ → ℕ) (es : List Wire) → Symmetric (joined_oddly spiders home es)
joined_oddly_comm spiders home [] p q = refl
joined_oddly_comm spiders home (e ∷ es) p q =
    ap₂ (λ a b. xor (edge_mark spiders e && a) b) (is_pair_comm (home e.a) (home e.b) p q) (joined_oddly_comm spiders home es p q)

pub hangs_comm : (next : ℕ) (vs : List ℕ) → Symmetric (hangs next vs)
hangs_comm next [] p q = refl
hangs_comm next (v ∷ vs) p q = ap₂ xor (is_pair_comm v next p q) (hangs_comm (suc next) vs p q)

pair_apart : (a b w : ℕ) → a ≢ w → b ≢ w → (p : ℕ) → is_pair a b p w ≡ false
pair_apart a b w na nb p =
    by_equal w b (λ t e. absurd (nb (sym e)))
    (λ t n. by_equal w a (λ s e. absurd (na (sym e))) (λ s m. rw (t, s) (nothing (eqb p a) (eqb p b))))
  where
    nothing : (c d : Bool) → ((c && false) || (d && false)) ≡ false
    nothing true true = refl
    nothing true false = refl
    nothing false true = refl
    nothing false false = refl

and-false : (b : Bool) → (b && false) ≡ false
and-false true = refl
and-false false = refl

joined_oddly-far : (spiders : List Spider) (home : ℕ → ℕ) (n c : ℕ) (es : List Wire) (w : ℕ) → All (IsEdgeOf n) es →
    ((u : ℕ) → u < n → home u < c) → c ≤ w → (p : ℕ) → joined_oddly spiders home es p w ≡ false
joined_oddly-far spiders home n c [] w on within far p = refl
joined_oddly-far spiders home n c (e ∷ es) w on within far p =
    let ends : IsEdgeOf n e = All-head (IsEdgeOf n) e es on in
    let a_low : home e.a < c = within e.a ends.0 in
    let b_low : home e.b < c = within e.b ends.1 in
    ap₂ xor
    (ap (λ b. edge_mark spiders e && b) (pair_apart (home e.a) (home e.b) w (λ q. absurd (omega arith)) (λ q. absurd (omega arith)) p)
    ∙ and-false (edge_mark spiders e))
    (joined_oddly-far spiders home n c es w (All-tail (IsEdgeOf n) e es on) within far p)

-- the label of a number that nothing is adjacent to doesn't matter
masked-far : (near : ℕ → Bool) (w : ℕ) (vs : List ℕ) (label : ℕ → Bool) (h : Bool) → near w ≡ false →
    masked near vs (labelled label w h) ≡ masked near vs label
masked-far near w vs label h far =
    masked-same near near vs (labelled label w h) label
    (λ p t. by_equal p w
    (λ s e. ap (λ b. b && labelled label w h p) (ap near e ∙ far) ∙ sym (ap (λ b. b && label p) (ap near e ∙ far)))
    (λ s n. ap (λ b. near p && b) (labelled-other label w h p n)))

quad-far : (a : ℕ → ℕ → Bool) (w : ℕ) (vs : List ℕ) (label : ℕ → Bool) (h : Bool) → ((p : ℕ) → a p w ≡ false) → ((p : ℕ) → a w p ≡ false) →
    quad a vs (labelled label w h) ≡ quad a vs label
quad-far a w [] label h to from = refl
quad-far a w (v ∷ vs) label h to from =
    ap₂ xor
    (by_equal v w
    (λ s e. ap (λ m. labelled label w h v && m) (nothing (labelled label w h) e) ∙ and-false (labelled label w h v)
    ∙ sym (ap (λ m. label v && m) (nothing label e) ∙ and-false (label v)))
    (λ s n. ap₂ (λ b m. b && m) (labelled-other label w h v n) (masked-far (a v) w vs label h (to v))))
    (quad-far a w vs label h to from)
  where
    nothing : (k : ℕ → Bool) → v ≡ w → masked (a v) vs k ≡ false
    nothing k e =
        ap (λ r. masked (a r) vs k) e
        ∙ masked-same (a w) (λ p. false) vs k k (λ p t. ap (λ b. b && k p) (from p))
        ∙ masked-false vs k

pub AreBelow-ends : (spiders : List Spider) (home : ℕ → ℕ) (n c : ℕ) (legs : List Leg) → All (λ leg. leg.spider < n) legs →
    ((u : ℕ) → u < n → home u < c) → AreBelow c (end_vertices (ends_at spiders home legs))
AreBelow-ends spiders home n c [] on within v there = absurd (true≢false (sym there))
AreBelow-ends spiders home n c (l ∷ ls) on within v there =
    by_equal v (home l.spider)
    (λ t e. subst (λ r. r < c) (sym e) (within l.spider (All-head (λ leg. leg.spider < n) l ls on)))
    (λ t ne. AreBelow-ends spiders home n c ls (All-tail (λ leg. leg.spider < n) l ls on) within v (rw t at there))

below-append : (c : ℕ) (vs ws : List ℕ) → AreBelow c vs → AreBelow c ws → AreBelow c (vs ++ ws)
below-append c [] ws below others w there = others w there
below-append c (v ∷ vs) ws below others w there =
    by_equal w v (λ t e. below w (rw t refl))
    (λ t n. below-append c vs ws (λ u m. below u (member-there u v vs m)) others w (rw t at there))

length-append : (vs ws : List ℕ) → length (vs ++ ws) ≡ length vs + length ws
length-append [] ws = omega arith
length-append (v ∷ vs) ws = let again : length (vs ++ ws) ≡ length vs + length ws = length-append vs ws in omega arith

append_assoc : (us vs ws : List ℕ) → (us ++ vs) ++ ws ≡ us ++ (vs ++ ws)
append_assoc [] vs ws = refl
append_assoc (u ∷ us) vs ws = ap (λ l. u ∷ l) (append_assoc us vs ws)

pub length-ends_at : (spiders : List Spider) (home : ℕ → ℕ) (legs : List Leg) → length (ends_at spiders home legs) ≡ length legs
length-ends_at spiders home [] = refl
length-ends_at spiders home (l ∷ ls) = ap (λ n. suc n) (length-ends_at spiders home ls)

-- rearranged products
parts : (v s h k i o : Number) → mul v (mul (mul s (mul h k)) (mul i o)) ≡ mul h (mul i (mul k (mul o (mul v s))))
parts v s h k i o = simp sorted

inputs_in : (i k o r : Number) → mul i (mul k (mul o r)) ≡ mul k (mul o (mul i r))
inputs_in i k o r = simp sorted

outputs_in : (o i v s : Number) → mul o (mul i (mul v s)) ≡ mul v (mul s (mul i o))
outputs_in o i v s = simp sorted

-- the parts of a summand of the graph, in which its classes stand by themselves
abbrev rest_of : Diagram → (ℕ → ℕ) → ℕ → ℕ → (ℕ → Bool) → Number
rest_of d home count m label =
    mul (vertex_product (map (class_vertex d home) (numbers_from 0 count)) label) (sign (quad (joined_oddly d.spiders home d.edges) (numbers_from 0 m) label))

rest-ignores : (d : Diagram) (home : ℕ → ℕ) (count m w : ℕ) → IsDiagram d → ((u : ℕ) → u < length d.spiders → home u < count) → count ≤ w →
    Ignores (rest_of d home count m) w
rest-ignores d home count m w is within far label h =
    ap₂ (λ v q. mul v (sign q))
    (vertex_product-labelled w (map (class_vertex d home) (numbers_from 0 count)) label h
    (ap (member w) (ids-classes d home (numbers_from 0 count)) ∙ absent_late w 0 count (omega arith)))
    (quad-far (joined_oddly d.spiders home d.edges) w (numbers_from 0 m) label h
    (joined_oddly-far d.spiders home (length d.spiders) count d.edges w is.edges within far)
    (λ p. joined_oddly_comm d.spiders home d.edges w p ∙ joined_oddly-far d.spiders home (length d.spiders) count d.edges w is.edges within far p))
  where
    absent_late : (w k n : ℕ) → k + n ≤ w → member w (numbers_from k n) ≡ false
    absent_late w k nought late = refl
    absent_late w k (suc n) late = by_equal w k (λ t e. absurd (omega arith)) (λ t e. rw t (absent_late w (suc k) n (omega arith)))

-- the edges of the graph are as stated
edge_product-like : (d : Diagram) (home : ℕ → ℕ) (count m : ℕ) (label : ℕ → Bool) →
    edge_product (edges_of (adjacent d home count) (numbers_from 0 m)) label
    ≡ mul (sign (quad (joined_oddly d.spiders home d.edges) (numbers_from 0 m) label)) (sign (quad (hangs count (all_surplus d home)) (numbers_from 0 m) label))
edge_product-like d home count m label =
    edge_product_is (numbers_from 0 m) (edges_of near (numbers_from 0 m)) label (Distinct-numbers_from 0 m) (OrderedEdges-edges_of near (numbers_from 0 m) (rising-numbers_from 0 m))
    ∙ ap sign
    (quad_same (joined (edges_of near (numbers_from 0 m))) near (numbers_from 0 m) label (Distinct-numbers_from 0 m)
    (λ p q s t n. joined-edges_of near (numbers_from 0 m) p q symmetric n ∙ ap₂ (λ a b. (a && b) && near p q) s t)
    ∙ quad-xor (joined_oddly d.spiders home d.edges) (hangs count (all_surplus d home)) (numbers_from 0 m) label)
    ∙ sym (mul-sign _ _)
  where
    near : ℕ → ℕ → Bool
    near = adjacent d home count

    symmetric : Symmetric near
    symmetric p q = ap₂ xor (joined_oddly_comm d.spiders home d.edges p q) (hangs_comm count (all_surplus d home) p q)

-- the sum of the graph over its vertices
graph_sum_over : (g : Graph) (x y : List Bool) → graph_sum g x y ≡ sum_over (ids g.vertices) (graph.term g x y)
graph_sum_over g x y =
    ap (λ n. total (map (λ hs. graph.term g x y (label_of (ids g.vertices) hs)) (all_labels n))) (sym (length-ids g.vertices))
    ∙ all_lists (ids g.vertices) (graph.term g x y)

pub absent_of : (c w : ℕ) (vs : List ℕ) → AreBelow c vs → c ≤ w → member w vs ≡ false
absent_of c w vs below far =
    by_test (member w vs) (λ t. let low : w < c = below w t in absurd (omega arith)) (λ t. t)

pub like_sum : (d : Diagram) (least : ℕ → ℕ) (x y : List Bool) → IsDiagram d → NamesClasses d least →
    length x ≡ length d.inputs → length y ≡ length d.outputs →
    graph_sum (like_graph d (home_in d least) (length (leaders d least))) x y
    ≡ mul (mul (surplus_scale [] (inputs_at d (home_in d least))) (surplus_scale [] (outputs_at d (home_in d least)))) (diagram_sum d x y)
like_sum d least x y is c long_x long_y =
    graph_sum_over g x y
    ∙ ap (λ l. sum_over l (graph.term g x y)) (ids_are ∙ ap (λ l. ps ++ l) new_ids)
    ∙ sum_over-swapped ps (new_inputs ++ new_outputs) (graph.term g x y)
    ∙ ap (λ l. sum_over l (graph.term g x y)) (append_assoc new_inputs new_outputs ps)
    ∙ sum_over_same (new_inputs ++ (new_outputs ++ ps)) (graph.term g x y) _ term_is
    ∙ sum_out_surplus count count [] ins x (new_outputs ++ ps) past_inputs (long_x ∙ sym (length-ends_at d.spiders home d.inputs)) ins_below (omega arith)
    past_inputs-ignores
    ∙ ap (mul (surplus_scale [] ins))
    (sum_over_same (new_outputs ++ ps) _ _ (λ label. inputs_in _ _ _ _)
    ∙ sum_out_surplus count (count + length (surplus ins)) [] outs y ps past_outputs (long_y ∙ sym (length-ends_at d.spiders home d.outputs)) outs_below (omega arith)
    past_outputs-ignores
    ∙ ap (mul (surplus_scale [] outs)) classes_are)
    ∙ sym (mul_assoc _ _ _)
  where
    home : ℕ → ℕ
    home = home_in d least

    count : ℕ
    count = length (leaders d least)

    g : Graph
    g = like_graph d home count

    ins : List End
    ins = inputs_at d home

    outs : List End
    outs = outputs_at d home

    m : ℕ
    m = count + length (all_surplus d home)

    ps : List ℕ
    ps = numbers_from 0 count

    new_inputs : List ℕ
    new_inputs = numbers_from count (length (surplus ins))

    new_outputs : List ℕ
    new_outputs = numbers_from (count + length (surplus ins)) (length (surplus outs))

    within : (u : ℕ) → u < length d.spiders → home u < count
    within = home-below d least c

    ins_below : AreBelow count (end_vertices ins)
    ins_below = AreBelow-ends d.spiders home (length d.spiders) count d.inputs is.inputs within

    outs_below : AreBelow count (end_vertices outs)
    outs_below = AreBelow-ends d.spiders home (length d.spiders) count d.outputs is.outputs within

    all_below : AreBelow count (all_surplus d home)
    all_below =
        below-append count (surplus ins) (surplus outs) (surplus-below count [] (end_vertices ins) ins_below) (surplus-below count [] (end_vertices outs) outs_below)

    ids_are : ids g.vertices ≡ ps ++ numbers_from count (length (all_surplus d home))
    ids_are =
        ids-append (map (class_vertex d home) ps) (map spider_of_phase_zero (numbers_from count (length (all_surplus d home))))
        ∙ ap₂ (λ a b. a ++ b) (ids-classes d home ps) (ids-new (numbers_from count (length (all_surplus d home))))

    new_ids : numbers_from count (length (all_surplus d home)) ≡ new_inputs ++ new_outputs
    new_ids =
        ap (numbers_from count) (length-append (surplus ins) (surplus outs))
        ∙ sym (numbers_from-append count (length (surplus ins)) (length (surplus outs)))

    rest : (ℕ → Bool) → Number
    rest = rest_of d home count m

    past_outputs : (ℕ → Bool) → Number
    past_outputs label = mul (end_product ins x label) (rest label)

    past_inputs : (ℕ → Bool) → Number
    past_inputs label =
        mul (hang_product (count + length (surplus ins)) (surplus outs) label)
        (mul (end_product (placed_in [] (count + length (surplus ins)) outs) y label) (rest label))

    past_inputs-ignores : (w : ℕ) → count ≤ w → w < count + length (surplus ins) → Ignores past_inputs w
    past_inputs-ignores w far early label h =
        ap₂ mul
        (hang_product-labelled count (count + length (surplus ins)) (surplus outs) w label h (surplus-below count [] (end_vertices outs) outs_below) far early)
        (ap₂ mul
        (end_product-labelled w (placed_in [] (count + length (surplus ins)) outs) y label h (absent-placed count (count + length (surplus ins)) [] outs w outs_below far early))
        (rest-ignores d home count m w is within far label h))

    past_outputs-ignores : (w : ℕ) → count + length (surplus ins) ≤ w → w < count + length (surplus ins) + length (surplus outs) → Ignores past_outputs w
    past_outputs-ignores w far early label h =
        ap₂ mul (end_product-labelled w ins x label h (absent_of count w (end_vertices ins) ins_below (omega arith)))
        (rest-ignores d home count m w is within (omega arith) label h)

    term_is : (label : ℕ → Bool) → graph.term g x y label
        ≡ mul (hang_product count (surplus ins) label) (mul (end_product (placed_in [] count ins) x label) (past_inputs label))
    term_is label =
        ap₂ mul
        (vertex_product-append (map (class_vertex d home) ps) (map spider_of_phase_zero (numbers_from count (length (all_surplus d home)))) label
        ∙ ap (mul (vertex_product (map (class_vertex d home) ps) label)) (vertex_product-new (numbers_from count (length (all_surplus d home))) label)
        ∙ mul-one _)
        (ap (λ e. mul e (mul (end_product g.inputs x label) (end_product g.outputs y label)))
        (edge_product-like d home count m label
        ∙ ap (mul (sign (quad (joined_oddly d.spiders home d.edges) (numbers_from 0 m) label)))
        (sign_hangs count count m (all_surplus d home) label all_below (omega arith) (omega arith)
        ∙ hang_product-append count (surplus ins) (surplus outs) label)))
        ∙ parts _ _ _ _ _ _

    in_ps : (u : ℕ) → u < length d.spiders → member (home u) ps ≡ true
    in_ps u low = let there : home u < count = within u low in member-numbers_from (home u) 0 count (omega arith) (omega arith)

    in_all : (u : ℕ) → u < length d.spiders → member (home u) (numbers_from 0 m) ≡ true
    in_all u low = let there : home u < count = within u low in member-numbers_from (home u) 0 m (omega arith) (omega arith)

    classes_are : sum_over ps (λ label. mul (end_product outs y label) (past_outputs label)) ≡ diagram_sum d x y
    classes_are =
        sum_over_same ps _ (λ label. term d x y (λ u. label (home u)))
        (λ label. outputs_in _ _ _ _
        ∙ sym (fused_term d home ps (numbers_from 0 m) x y label is (Distinct-numbers_from 0 count) (Distinct-numbers_from 0 m) in_ps in_all (plain_home d least c)))
        ∙ sym (sum_over-renamed (leaders d least) least (term d x y))
        ∙ sym (fused_sum d least x y is c)

pub like_proportional : (d : Diagram) (g : Graph) → IsDiagram d → IsLikeForm d g →
    Proportional (length d.inputs) (length d.outputs) (diagram_sum d) (graph_sum g)
like_proportional d g is like = record {
  left = mul (surplus_scale [] (inputs_at d (home_in d like.least))) (surplus_scale [] (outputs_at d (home_in d like.least)));
  right = one;
  left_nonzero = mul-nonzero _ _
      (surplus_scale-nonzero [] (inputs_at d (home_in d like.least))) (surplus_scale-nonzero [] (outputs_at d (home_in d like.least)));
  right_nonzero = one_nonzero;
  equal = λ x y long_x long_y.
      sym (like_sum d like.least x y is like.classes long_x long_y)
      ∙ ap (λ h. graph_sum h x y) (sym like.graph)
      ∙ sym (one-mul _);
}
