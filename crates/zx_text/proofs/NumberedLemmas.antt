-- The file of a graph spells the graph and the flow with the vertices numbered from 0.
use Rattle.std.proofs.Common.{◌≡◌, ℕ, ◌%◌, ◌<◌, ◌≤◌, suc, Bool, true, false, not, eqb, ltb, ◌||◌, ◌&&◌, ◌⊎◌, inl, inr, if◌then◌else◌, List, [], ◌∷◌, ◌++◌, map, filter, length, refl, sym, ap, ap₂, ◌∙◌, subst, ltb-true, le-ltb, lt-ltb, true≢false, append_assoc, arith, Option, None, Some, IfSome}
use Rattle.std.specs.List.{list_all, range_with_len}
use Rattle.std.proofs.lemmas.List.{length-map}
use Rattle.zx_model.specs.Phase.{turn}
use Rattle.zx_model.specs.Bits.{member}
use Rattle.zx_calculus.specs.Graph.{Vertex, Edge, End, Graph, WellFormed, OrderedEdges, OrderedEnds, ids, end_vertices, in_order, different, edge_before, is_XY, kind_of}
use Rattle.zx_calculus.proofs.Ids.{by_equal, eqb-self, and-left, and-right, member-here, member-there}
use Rattle.zx_calculus.proofs.Edges.{edge_before-true}
use Rattle.zx_calculus.proofs.Kept.{both}
use Rattle.gflow_laws.specs.Flow.{Correction, order_of, set_of}
use Rattle.zx_text.specs.Files.{Two, unit}
use Rattle.zx_text.specs.Numbered.{number_in, vertex_with, edge_with, end_with, numbered, numbered_table, numbered_flow}
use Rattle.zx_text.specs.Reading.{most_ends, IsFile, IsFlowOfFile}
use Rattle.zx_text.proofs.PartLemmas.{length-last}
use Rattle.zx_text.proofs.SetLemmas.{in_all}
use Rattle.zx_text.proofs.WrittenLemmas.{number_less, number_injective, same_test, member-map, ids-with, end_vertices-with, order_of-with, set_of-with}
use Rattle.zx_text.proofs.SaidLemmas.{rising_range, last_true}
use Rattle.zx_text.proofs.LeadsLemmas.{at_append}

-- ---- numbers of rising ids
none_lower : (x : ℕ) (xs : List ℕ) → list_all (ltb x) xs ≡ true → length (filter (λ u. ltb u x) xs) ≡ 0
none_lower x [] above = refl
none_lower x (y ∷ ys) above =
    let lt = ltb-true x y (and-left _ _ above) in
    let here : ltb y x ≡ false = le-ltb y x (omega (arith, lt)) in
    rw here (none_lower x ys (and-right _ _ above))

lower_here : (before : List ℕ) (x : ℕ) (xs : List ℕ) → in_order ltb (before ++ x ∷ xs) ≡ true → number_in (before ++ x ∷ xs) x ≡ length before
lower_here [] x xs rising =
    let here : ltb x x ≡ false = le-ltb x x (omega arith) in
    rw here (none_lower x xs (and-left _ _ rising))
lower_here (y ∷ before) x xs rising =
    let here : ltb y x ≡ true = at_append (ltb y) before x xs (and-left _ _ rising) in
    rw here (ap suc (lower_here before x xs (and-right _ _ rising)))

numbers_from : (before xs : List ℕ) → in_order ltb (before ++ xs) ≡ true → map (number_in (before ++ xs)) xs ≡ range_with_len (length before) (length xs)
numbers_from before [] rising = refl
numbers_from before (x ∷ xs) rising =
    let whole : (before ++ x ∷ []) ++ xs ≡ before ++ x ∷ xs = append_assoc before (x ∷ []) xs in
    ap₂ (λ n ns. n ∷ ns) (lower_here before x xs rising)
    (ap (λ l. map (number_in l) xs) (sym whole) ∙ numbers_from (before ++ x ∷ []) xs (ap (in_order ltb) whole ∙ rising)
    ∙ ap (λ n. range_with_len n (length xs)) (length-last before x))

length-ids : (f : ℕ → ℕ) (vs : List Vertex) → length (ids vs) ≡ length (map (vertex_with f) vs)
length-ids f [] = refl
length-ids f (v ∷ vs) = ap suc (length-ids f vs)

-- ---- lists of the numbered graph
member-image : (f : ℕ → ℕ) (v : ℕ) (vs : List ℕ) → member v vs ≡ true → member (f v) (map f vs) ≡ true
member-image f v [] inside = absurd (true≢false (sym inside))
member-image f v (u ∷ us) inside =
    by_equal v u
    (λ t e. ap (λ w. member (f v) (f w ∷ map f us)) (sym e) ∙ member-here (f v) (map f us))
    (λ other n. member-there (f v) (f u) (map f us) (member-image f v us (ap (λ b. b || member v us) (sym other) ∙ inside)))

all_image : (p q : ℕ → Bool) (f : ℕ → ℕ) (vs : List ℕ) → ((v : ℕ) → member v vs ≡ true → p v ≡ true → q (f v) ≡ true) → list_all p vs ≡ true → list_all q (map f vs) ≡ true
all_image p q f [] keeps all = refl
all_image p q f (v ∷ vs) keeps all =
    both _ _ (keeps v (member-here v vs) (and-left _ _ all))
    (all_image p q f vs (λ w inside. keeps w (member-there w v vs inside)) (and-right _ _ all))

order_image : (before after : ℕ → ℕ → Bool) (f : ℕ → ℕ) (vs : List ℕ) → ((u v : ℕ) → member u vs ≡ true → member v vs ≡ true → before u v ≡ true → after (f u) (f v) ≡ true)
    → in_order before vs ≡ true → in_order after (map f vs) ≡ true
order_image before after f [] keeps order = refl
order_image before after f (v ∷ vs) keeps order =
    both _ _ (all_image (before v) (after (f v)) f vs (λ w inside. keeps v w (member-here v vs) (member-there w v vs inside)) (and-left _ _ order))
    (order_image before after f vs (λ u w inside inside'. keeps u w (member-there u v vs inside) (member-there w v vs inside')) (and-right _ _ order))

kind_of-with : (f : ℕ → ℕ) (vs : List Vertex) (u : ℕ) → ((v : ℕ) → member v (ids vs) ≡ true → f u ≡ f v → u ≡ v) → kind_of (map (vertex_with f) vs) (f u) ≡ kind_of vs u
kind_of-with f [] u injective = refl
kind_of-with f (v ∷ vs) u injective =
    let same : eqb (f u) (f v.id) ≡ eqb u v.id = same_test f u v.id (injective v.id (member-here v.id (ids vs))) in
    ap₂ (λ b k. if b then v.kind else k) same (kind_of-with f vs u (λ w inside. injective w (member-there w v.id (ids vs) inside)))

phases_below : (f : ℕ → ℕ) (vs : List Vertex) → list_all (λ v. ltb v.kind.phase turn) vs ≡ true → list_all (λ v. ltb v.kind.phase turn) (map (vertex_with f) vs) ≡ true
phases_below f [] all = refl
phases_below f (v ∷ vs) all = both _ _ (and-left _ _ all) (phases_below f vs (and-right _ _ all))

whole_phases : (f : ℕ → ℕ) (vs : List Vertex) → list_all (λ v. eqb (v.kind.phase % unit Two) 0) (map (vertex_with f) vs) ≡ true
whole_phases f [] = refl
whole_phases f (v ∷ vs) = let e : v.kind.phase % 1 ≡ 0 = omega arith in both _ _ (ap (λ n. eqb n 0) e) (whole_phases f vs)

-- ---- edges
keeps_before : (f : ℕ → ℕ) (all : List ℕ) → ((u v : ℕ) → member u all ≡ true → u < v → f u < f v) → (d e : Edge) → member d.lower all ≡ true → member d.higher all ≡ true
    → edge_before d e ≡ true → edge_before (edge_with f d) (edge_with f e) ≡ true
keeps_before f all rises d e low high before = by_place (edge_before-true d e before)
  where
    by_place : (d.lower < e.lower) ⊎ ((d.lower ≡ e.lower) × (d.higher < e.higher)) → edge_before (edge_with f d) (edge_with f e) ≡ true
    by_place (inl lt) = let here : ltb (f d.lower) (f e.lower) ≡ true = lt-ltb (f d.lower) (f e.lower) (rises d.lower e.lower low lt) in ap (λ b. b || (eqb (f d.lower) (f e.lower) && ltb (f d.higher) (f e.higher))) here
    by_place (inr later) =
        last_true (ltb (f d.lower) (f e.lower)) _
        (both _ _ (ap (λ v. eqb (f d.lower) (f v)) (sym later.0) ∙ eqb-self (f d.lower)) (lt-ltb (f d.higher) (f e.higher) (rises d.higher e.higher high later.1)))

edges_with : (f : ℕ → ℕ) (all : List ℕ) → ((u v : ℕ) → member u all ≡ true → u < v → f u < f v) → (es : List Edge) → OrderedEdges all es → OrderedEdges (map f all) (map (edge_with f) es)
edges_with f all rises es are = record {
  lower_first = firsts es are.lower_first are.lower_there;
  rising = rising es are.rising are.lower_there are.higher_there;
  lower_there = lowers es are.lower_there;
  higher_there = highers es are.higher_there;
}
  where
    firsts : (es : List Edge) → list_all (λ e. ltb e.lower e.higher) es ≡ true → list_all (λ e. member e.lower all) es ≡ true
        → list_all (λ e. ltb e.lower e.higher) (map (edge_with f) es) ≡ true
    firsts [] first there = refl
    firsts (e ∷ es) first there =
        both _ _ (lt-ltb (f e.lower) (f e.higher) (rises e.lower e.higher (and-left _ _ there) (ltb-true e.lower e.higher (and-left _ _ first)))) (firsts es (and-right _ _ first) (and-right _ _ there))

    lowers : (es : List Edge) → list_all (λ e. member e.lower all) es ≡ true → list_all (λ e. member e.lower (map f all)) (map (edge_with f) es) ≡ true
    lowers [] there = refl
    lowers (e ∷ es) there = both _ _ (member-image f e.lower all (and-left _ _ there)) (lowers es (and-right _ _ there))

    highers : (es : List Edge) → list_all (λ e. member e.higher all) es ≡ true → list_all (λ e. member e.higher (map f all)) (map (edge_with f) es) ≡ true
    highers [] there = refl
    highers (e ∷ es) there = both _ _ (member-image f e.higher all (and-left _ _ there)) (highers es (and-right _ _ there))

    after : (d : Edge) → member d.lower all ≡ true → member d.higher all ≡ true → (es : List Edge) → list_all (edge_before d) es ≡ true
        → list_all (edge_before (edge_with f d)) (map (edge_with f) es) ≡ true
    after d low high [] before = refl
    after d low high (e ∷ es) before = both _ _ (keeps_before f all rises d e low high (and-left _ _ before)) (after d low high es (and-right _ _ before))

    rising : (es : List Edge) → in_order edge_before es ≡ true → list_all (λ e. member e.lower all) es ≡ true → list_all (λ e. member e.higher all) es ≡ true
        → in_order edge_before (map (edge_with f) es) ≡ true
    rising [] order low high = refl
    rising (e ∷ es) order low high =
        both _ _ (after e (and-left _ _ low) (and-left _ _ high) es (and-left _ _ order)) (rising es (and-right _ _ order) (and-right _ _ low) (and-right _ _ high))

-- ---- the whole
apart : (f : ℕ → ℕ) (u v : ℕ) → (f u ≡ f v → u ≡ v) → different u v ≡ true → different (f u) (f v) ≡ true
apart f u v injective differ = ap not (same_test f u v injective) ∙ differ

ends_with : (f : ℕ → ℕ) (vs : List Vertex) (ends : List End) → ((u v : ℕ) → member u (ids vs) ≡ true → member v (ids vs) ≡ true → f u ≡ f v → u ≡ v)
    → OrderedEnds vs ends → OrderedEnds (map (vertex_with f) vs) (map (end_with f) ends)
ends_with f vs ends injective are =
    let at : end_vertices (map (end_with f) ends) ≡ map f (end_vertices ends) = end_vertices-with f ends in
    let there : (v : ℕ) → member v (end_vertices ends) ≡ true → member v (ids vs) ≡ true = λ v inside. in_all (λ u. member u (ids vs)) (end_vertices ends) v are.there inside in
    record {
      one_each = ap (in_order different) at
          ∙ order_image different different f (end_vertices ends) (λ u v inside inside' differ. apart f u v (injective u v (there u inside) (there v inside')) differ) are.one_each;
      there = ap (list_all (λ u. member u (ids (map (vertex_with f) vs)))) at
          ∙ all_image (λ u. member u (ids vs)) (λ u. member u (ids (map (vertex_with f) vs))) f (end_vertices ends)
          (λ v inside live. ap (member (f v)) (ids-with f vs) ∙ member-image f v (ids vs) live) are.there;
      at_XY = ap (list_all (λ u. is_XY (kind_of (map (vertex_with f) vs) u).plane)) at
          ∙ all_image (λ u. is_XY (kind_of vs u).plane) (λ u. is_XY (kind_of (map (vertex_with f) vs) u).plane) f (end_vertices ends)
          (λ v inside flat. ap (λ k. is_XY k.plane) (kind_of-with f vs v (λ w live. injective v w (there v inside) live)) ∙ flat) are.at_XY;
    }

flow_with : (g : Graph) (t : List Correction) → WellFormed g → IsFlowOfFile g t → IsFlowOfFile (numbered g) (numbered_table g t)
flow_with g t valid flow =
    record {
      order = record {
        each_once = ap (in_order different) order
            ∙ order_image different different f (order_of t) (λ u v inside inside' differ. apart f u v (injective u v (placed u inside) (placed v inside')) differ) flow.order.each_once;
        no_others = ap (list_all (λ v. member v (ids (numbered g).vertices) && not (member v (end_vertices (numbered g).outputs)))) order
            ∙ all_image (λ v. member v all && not (member v outputs)) (λ v. member v (ids (numbered g).vertices) && not (member v (end_vertices (numbered g).outputs))) f (order_of t)
            (λ v inside fits. both _ _ (live_with v (and-left _ _ fits)) (ap not (output_with v (and-left _ _ fits)) ∙ and-right _ _ fits)) flow.order.no_others;
        all_there = ap (list_all (λ v. member v (end_vertices (numbered g).outputs) || member v (order_of (numbered_table g t)))) (ids-with f g.vertices)
            ∙ all_image (λ v. member v outputs || member v (order_of t)) (λ v. member v (end_vertices (numbered g).outputs) || member v (order_of (numbered_table g t))) f all
            (λ v live either. ap₂ (λ a b. a || b) (output_with v live) (order_with v live) ∙ either) flow.order.all_there;
        vertices = ap (list_all (λ v. list_all (λ w. member w (ids (numbered g).vertices)) (set_of (numbered_table g t) v))) order
            ∙ all_image (λ v. list_all (λ w. member w all) (set_of t v)) (λ v. list_all (λ w. member w (ids (numbered g).vertices)) (set_of (numbered_table g t) v)) f (order_of t)
            (λ v inside live. ap (list_all (λ w. member w (ids (numbered g).vertices))) (set_with v inside)
            ∙ all_image (λ w. member w all) (λ w. member w (ids (numbered g).vertices)) f (set_of t v) (λ w inside' there. live_with w there) live) flow.order.vertices;
      };
      rising = ap (list_all (λ v. in_order ltb (set_of (numbered_table g t) v))) order
          ∙ all_image (λ v. in_order ltb (set_of t v)) (λ v. in_order ltb (set_of (numbered_table g t) v)) f (order_of t)
          (λ v inside rises. ap (in_order ltb) (set_with v inside)
          ∙ order_image ltb ltb f (set_of t v) (λ u w u_in w_in lt. lt-ltb (f u) (f w) (number_less all u w (members v inside u u_in) (ltb-true u w lt))) rises) flow.rising;
    }
  where
    all : List ℕ
    all = ids g.vertices

    outputs : List ℕ
    outputs = end_vertices g.outputs

    f : ℕ → ℕ
    f = number_in all

    injective : (u v : ℕ) → member u all ≡ true → member v all ≡ true → f u ≡ f v → u ≡ v
    injective u v live live' e = number_injective all u v live live' e

    order : order_of (numbered_table g t) ≡ map f (order_of t)
    order = order_of-with f t

    placed : (v : ℕ) → member v (order_of t) ≡ true → member v all ≡ true
    placed v inside = and-left _ _ (in_all (λ u. member u all && not (member u outputs)) (order_of t) v flow.order.no_others inside)

    live_with : (v : ℕ) → member v all ≡ true → member (f v) (ids (numbered g).vertices) ≡ true
    live_with v live = ap (member (f v)) (ids-with f g.vertices) ∙ member-image f v all live

    output_with : (v : ℕ) → member v all ≡ true → member (f v) (end_vertices (numbered g).outputs) ≡ member v outputs
    output_with v live =
        ap (member (f v)) (end_vertices-with f g.outputs)
        ∙ member-map f v outputs (λ e there. injective v e live (in_all (λ u. member u all) outputs e valid.outputs.there there))

    order_with : (v : ℕ) → member v all ≡ true → member (f v) (order_of (numbered_table g t)) ≡ member v (order_of t)
    order_with v live = ap (member (f v)) order ∙ member-map f v (order_of t) (λ e there. injective v e live (placed e there))

    set_with : (v : ℕ) → member v (order_of t) ≡ true → set_of (numbered_table g t) (f v) ≡ map f (set_of t v)
    set_with v inside = set_of-with f t v (λ e there. injective v e (placed v inside) (placed e there))

    members : (v : ℕ) → member v (order_of t) ≡ true → (w : ℕ) → member w (set_of t v) ≡ true → member w all ≡ true
    members v inside w there =
        in_all (λ u. member u all) (set_of t v) w (in_all (λ u. list_all (λ x. member x all) (set_of t u)) (order_of t) v flow.order.vertices inside) there

pub numbered_file : (g : Graph) (flow : Option (List Correction)) → WellFormed g → length g.inputs ≤ most_ends → length g.outputs ≤ most_ends
    → IfSome flow (IsFlowOfFile g) → IsFile Two (numbered g) (numbered_flow g flow)
numbered_file g flow valid few_i few_o good =
    record {
      graph = record {
        vertices_rising = ap (in_order ltb) numbers ∙ rising_range 0 (length (numbered g).vertices);
        phases_below_a_turn = phases_below f g.vertices valid.phases_below_a_turn;
        edges = subst (λ vs. OrderedEdges vs (map (edge_with f) g.edges)) (sym (ids-with f g.vertices)) (edges_with f all (λ u v live lt. number_less all u v live lt) g.edges valid.edges);
        inputs = ends_with f g.vertices g.inputs (number_injective all) valid.inputs;
        outputs = ends_with f g.vertices g.outputs (number_injective all) valid.outputs;
      };
      numbered = numbers;
      phases = whole_phases f g.vertices;
      few_inputs = let same = length-map g.inputs (end_with f) in omega (arith, same, few_i);
      few_outputs = let same = length-map g.outputs (end_with f) in omega (arith, same, few_o);
      flow = of_flow flow good;
    }
  where
    all : List ℕ
    all = ids g.vertices

    f : ℕ → ℕ
    f = number_in all

    numbers : ids (numbered g).vertices ≡ range_with_len 0 (length (numbered g).vertices)
    numbers = ids-with f g.vertices ∙ numbers_from [] all valid.vertices_rising ∙ ap (range_with_len 0) (length-ids f g.vertices)

    of_flow : (flow : Option (List Correction)) → IfSome flow (IsFlowOfFile g) → IfSome (numbered_flow g flow) (IsFlowOfFile (numbered g))
    of_flow None good = tt
    of_flow (Some t) good = flow_with g t valid good
