-- Local complementation: the form of the graph, the sum, the counts, the program, and identities.
use Rattle.std.proofs.Common.{◌≡◌, ◌≢◌, refl, sym, ◌∙◌, ap, subst, ℕ, ◌<◌, Bool, true, false, cond, ◌&&◌, eqb, List, ne_eqb, arith, ap₂, ◌+◌, not}
use Rattle.zx_model.specs.Phase.{quarter_turn, opposite_phase, turn, is_odd}
use Rattle.zx_model.specs.Bits.{xor, member, one_if}
use Rattle.zx_model.specs.Sums.{sum_over}
use Rattle.zx_model.specs.Number.{sign, Number, mul}
use Rattle.zx_model.proofs.SumLemmas.{sum_over_scaled}
use Rattle.zx_model.proofs.Ring.{mul-sign}
use Rattle.zx_model.proofs.Odd.{is_odd-minus_quarter, is_odd-quarter_minus, is_odd-sum_quarter}
use Rattle.zx_calculus.specs.Graph.{YZ, Plane, XY, XZ, end_vertices, WellFormed, joined, Graph, kind_of, plane_of, ids, Kind, with_kinds, Vertex, phase_of, without, is_XZ, is_XY}
use Rattle.zx_calculus.specs.Turns.{complemented_in, quarter_turned, complemented, in_plane, half_turned}
use Rattle.zx_calculus.specs.Complements.{complement_kind, IsLocalComplement}
use Rattle.zx_calculus.specs.Parity.{masked}
use Rattle.zx_calculus.specs.Internal.Pairs.{quad}
use Rattle.zx_calculus.proofs.Factors.{quarter_cost, product_of, complement_right, complement_left_in, complement_right_in}
use Rattle.zx_calculus.specs.Sum.{spider, graph_sum, vertex_product}
use Rattle.zx_calculus.specs.Counts.{odd_phases, even_interior, not_XY}
use Rattle.zx_calculus.specs.Adjacency.{edges_of}
use Rattle.zx_calculus.specs.Steps.{allowed, after, LocalComplement}
use Rattle.zx_calculus.proofs.Kept.{sum_below, Below, cond_below, quarter_below, cond_XY, quarter_XY, KeepsXY, KeepsEnds-then, kept_kinds}
use Rattle.zx_calculus.proofs.Ids.{apart_of_member, eqb-self, Symmetric, and-right, and-left, by_equal}
use Rattle.zx_calculus.proofs.Vertices.{kind_of-with_kinds, ids-with_kinds, product_of-without, phase-kind_of, turned_product, list_all-without, without-with_kinds, turn_near, with_kinds_same}
use Rattle.zx_calculus.proofs.Gathering.{gather, with_parts, parts_are}
use Rattle.zx_calculus.proofs.Turning.{turn_identity, complement_identity, quarter_factor_in, picked_spiders}
use Rattle.zx_calculus.proofs.Forms.{at_ends, value, transform}
use Rattle.zx_calculus.proofs.Parity.{quad-xor, masked_same}
use Rattle.zx_calculus.proofs.Edges.{quad_same, joined_comm}
use Rattle.zx_calculus.proofs.Splitting.{member-without, distinct_without, sum_without, no_loop, distinct, joined-self}
use Rattle.zx_calculus.proofs.Counting.{quarter_odd, cond_odd, KeepsOdd, phases_below, odd_changed, odd_test, even_kept, even_test, even_changed, quarter_plane, cond_plane, plane_test, Change}
use Rattle.zx_calculus.proofs.CountLemmas.{count, count_apart, count-with_kinds}
use Rattle.zx_calculus.proofs.Booleans.{and_comm, and-false, xor-false}
use Rattle.zx_calculus.proofs.Programs.{absent_left, absent_right, rising_kinds, edges_full}
use Rattle.zx_calculus.proofs.EdgeLists.{OrderedEdges-edges_of, edges_ext}
use Rattle.zx_calculus.proofs.Results.{interior_from}
use Rattle.zx_calculus.proofs.StepIdentities.{toggled_back, quarter_turned-quarter_turned, half_turned-half_turned, same_graph, with_kinds-with_kinds, with_kinds-kept}

complemented_below : (plane : Plane) (k : ℕ) → k < turn → (complemented_in plane k).phase < turn
complemented_below XY k h = sum_below k quarter_turn
complemented_below XZ k h = sum_below quarter_turn (opposite_phase k)
complemented_below YZ k h = sum_below k (opposite_phase quarter_turn)

complement_kind_below : (u : ℕ) (near : ℕ → Bool) → Below (complement_kind u near)
complement_kind_below u near p k h = cond_below (eqb p u) _ _ (complemented_below k.plane k.phase h) (cond_below (near p) _ _ (quarter_below k.plane k.phase h) h)

complement_XY : (u : ℕ) (near : ℕ → Bool) (p : ℕ) → p ≢ u → KeepsXY (complement_kind u near) p
complement_XY u near p n k h =
    let apart : eqb p u ≡ false = ne_eqb p u n in
    rw apart (cond_XY (near p) (quarter_turned k) k (quarter_XY k.plane k.phase h) h)

pub local_complement_kept : (g : Graph) (u : ℕ) (h : Graph) → WellFormed g → IsLocalComplement g u h → WellFormed h
local_complement_kept g u h w c =
    kept_kinds g (complement_kind u (joined g.edges u)) h w (complement_kind_below u (joined g.edges u))
    (λ p t. complement_XY u (joined g.edges u) p (apart_of_member p u (end_vertices g.inputs) t c.interior.no_input))
    (λ p t. complement_XY u (joined g.edges u) p (apart_of_member p u (end_vertices g.outputs) t c.interior.no_output))
    c.vertices c.frame

module _ (g : Graph) (u : ℕ) (h : Graph) (wg : WellFormed g) (wh : WellFormed h) (c : IsLocalComplement g u h) where
  abbrev near : ℕ → Bool
  near = joined g.edges u

  abbrev ws : List Vertex
  ws = without u g.vertices

  abbrev changed : List Vertex
  changed = with_kinds (complement_kind u (joined g.edges u)) g.vertices

  abbrev turned : List Vertex
  turned = with_kinds (turn_near quarter_turned near) ws

  abbrev both_near : ℕ → ℕ → Bool
  both_near p q = near p && near q

  same_shape : h ≡ with_parts g changed h.edges
  same_shape = parts_are g h changed c.vertices c.frame

  kind_after : kind_of changed u ≡ complemented (kind_of g.vertices u)
  kind_after =
      kind_of-with_kinds (complement_kind u (joined g.edges u)) u g.vertices c.there
      ∙ ap (λ b. cond b (complemented (kind_of g.vertices u)) (cond (joined g.edges u u) (quarter_turned (kind_of g.vertices u)) (kind_of g.vertices u))) (eqb-self u)

  rest_after : without u changed ≡ turned
  rest_after =
      without-with_kinds (complement_kind u (joined g.edges u)) u g.vertices
      ∙ with_kinds_same _ _ (without u g.vertices)
      (λ p k there. ap (λ b. cond b (complemented k) (cond (joined g.edges u p) (quarter_turned k) k)) (ne_eqb p u (apart_of_member p u (ids (without u g.vertices)) there (member-without u g.vertices))))

  module _ (x y : List Bool) where
    abbrev rest : (ℕ → Bool) → Number
    rest = at_ends g.inputs g.outputs x y

    abbrev summand : Kind → List ℕ → List Vertex → (ℕ → Bool) → Number
    summand kind is vs label = mul (transform kind (masked (joined h.edges u) is label)) (mul (vertex_product vs label) (mul (sign (quad (joined h.edges) is label)) (rest label)))

    sum_after : graph_sum h x y ≡ sum_over (ids ws) (summand (complemented (kind_of g.vertices u)) (ids ws) turned)
    sum_after =
        ap (λ k. graph_sum k x y) same_shape
        ∙ sum_without (with_parts g changed h.edges) u x y (subst WellFormed same_shape wh) (ap (member u) (ids-with_kinds (complement_kind u (joined g.edges u)) g.vertices) ∙ c.there)
        (record { no_input = c.interior.no_input; no_output = c.interior.no_output })
        ∙ ap₂ (λ k vs. sum_over (ids vs) (summand k (ids vs) vs)) kind_after rest_after
        ∙ ap (λ is. sum_over is (summand (complemented (kind_of g.vertices u)) is turned)) (ids-with_kinds (turn_near quarter_turned near) ws)

    -- among the others, the edges of u stay, and those between its neighbours are toggled
    parity_after : (label : ℕ → Bool) → masked (joined h.edges u) (ids ws) label ≡ masked near (ids ws) label
    parity_after label =
        masked_same (joined h.edges u) near (ids ws) label
        (λ p there. c.edges u p (λ e. apart_of_member p u (ids ws) there (member-without u g.vertices) (sym e))
        ∙ ap (λ b. xor (near p) (b && near p)) (no_loop g u wg) ∙ xor_nothing (near p))
      where
        xor_nothing : (b : Bool) → xor b false ≡ b
        xor_nothing true = refl
        xor_nothing false = refl

    edges_after : (label : ℕ → Bool) → quad (joined h.edges) (ids ws) label ≡ xor (quad (joined g.edges) (ids ws) label) (quad both_near (ids ws) label)
    edges_after label =
        quad_same (joined h.edges) (λ p q. xor (joined g.edges p q) (both_near p q)) (ids ws) label (distinct_without g u wg) (λ p q s t n. c.edges p q n)
        ∙ quad-xor (joined g.edges) both_near (ids ws) label

    abbrev cost : Number
    cost = product_of near quarter_cost ws

    abbrev own : Number
    own = complement_right_in (plane_of g u) (phase_of g u)

    at_label : (label : ℕ → Bool) →
        mul (complement_left_in (plane_of g u)) (mul (transform (kind_of g.vertices u) (masked near (ids ws) label)) (value (joined g.edges) rest ws label))
        ≡ mul (mul own cost) (summand (complemented (kind_of g.vertices u)) (ids ws) turned label)
    at_label label =
        gather (complement_left_in (plane_of g u)) own cost (transform (kind_of g.vertices u) (masked near (ids ws) label)) (transform (complemented (kind_of g.vertices u)) (masked near (ids ws) label))
        (vertex_product ws label) (vertex_product turned label) (picked_spiders (spider quarter_turn) near (ids ws) label) (spider quarter_turn (masked near (ids ws) label))
        (sign (quad (joined g.edges) (ids ws) label)) (sign (quad both_near (ids ws) label)) (rest label)
        (complement_identity (plane_of g u) (phase_of g u) (masked near (ids ws) label) (phase-kind_of u g.vertices wg.phases_below_a_turn))
        (turned_product quarter_cost quarter_turned (spider quarter_turn) near ws label (λ k b below. quarter_factor_in k.plane k.phase b below) refl (list_all-without _ u g.vertices wg.phases_below_a_turn))
        (turn_identity near (ids ws) label)
        ∙ ap₂ (λ m s. mul (mul own cost) (mul (transform (complemented (kind_of g.vertices u)) m) (mul (vertex_product turned label) (mul s (rest label)))))
        (sym (parity_after label)) (mul-sign _ _ ∙ ap sign (sym (edges_after label)))

    pub complement_sum : mul (complement_left_in (plane_of g u)) (graph_sum g x y) ≡ mul (complement_right g u) (graph_sum h x y)
    complement_sum =
        ap (mul (complement_left_in (plane_of g u))) (sum_without g u x y wg c.there c.interior)
        ∙ sum_over_scaled (complement_left_in (plane_of g u)) (mul own cost) (ids ws) _ _ at_label
        ∙ ap₂ mul (ap (mul own) (product_of-without near quarter_cost u g.vertices (no_loop g u wg))) (sym sum_after)

complemented_odd : (plane : Plane) (k : ℕ) → k < turn → is_odd (complemented_in plane k).phase ≡ is_odd k
complemented_odd XY k h = is_odd-sum_quarter k
complemented_odd XZ k h = is_odd-quarter_minus k h
complemented_odd YZ k h = is_odd-minus_quarter k

complement_keeps_odd : (u : ℕ) (near : ℕ → Bool) → KeepsOdd (complement_kind u near)
complement_keeps_odd u near p k h = cond_odd (eqb p u) _ _ _ (complemented_odd k.plane k.phase h) (cond_odd (near p) _ _ _ (quarter_odd k.plane k.phase h) refl)

pub odd-complement : (g : Graph) (u : ℕ) (h : Graph) → WellFormed g → IsLocalComplement g u h → odd_phases h ≡ odd_phases g
odd-complement g u h w c =
    ap (count odd_test) c.vertices ∙ odd_changed g (complement_kind u (joined g.edges u)) g.vertices (complement_keeps_odd u (joined g.edges u)) (distinct g w) (phases_below g w)

pub even-complement : (g : Graph) (u : ℕ) (h : Graph) → WellFormed g → IsLocalComplement g u h → even_interior h ≡ even_interior g
even-complement g u h w c =
    even_kept g h c.frame ∙ ap (count (even_test g)) c.vertices
    ∙ even_changed g (complement_kind u (joined g.edges u)) g.vertices (complement_keeps_odd u (joined g.edges u)) (distinct g w) (phases_below g w)

complemented_plane : (plane : Plane) (k : ℕ)
    → one_if (not (is_XY plane)) + one_if (is_XY plane) ≡ one_if (not (is_XY (complemented_in plane k).plane)) + one_if (is_XZ plane)
complemented_plane XY k = refl
complemented_plane XZ k = refl
complemented_plane YZ k = refl

complement_kind-self : (u : ℕ) (near : ℕ → Bool) (k : Kind) → complement_kind u near u k ≡ complemented k
complement_kind-self u near k = ap (λ b. cond b (complemented k) (cond (near u) (quarter_turned k) k)) (eqb-self u)

complement_plane-other : (u : ℕ) (near : ℕ → Bool) (p : ℕ) (k : Kind) → p ≢ u → is_XY (complement_kind u near p k).plane ≡ is_XY k.plane
complement_plane-other u near p k n =
    ap (λ b. is_XY (cond b (complemented k) (cond (near p) (quarter_turned k) k)).plane) (ne_eqb p u n)
    ∙ cond_plane (near p) (quarter_turned k) k (is_XY k.plane) (quarter_plane k.plane k.phase) refl

pub planes-complement : (g : Graph) (u : ℕ) (h : Graph) → WellFormed g → IsLocalComplement g u h
    → not_XY h + one_if (is_XZ (plane_of g u)) ≡ not_XY g + one_if (is_XY (plane_of g u))
planes-complement g u h w c =
    balanced _ _ _ _ _ _ _ (ap (count plane_test) c.vertices ∙ count-with_kinds plane_test change g.vertices)
    (count_apart (λ p k. plane_test p (change p k)) plane_test u g.vertices (distinct g w) c.there
    (λ p m n. ap not (complement_plane-other u (joined g.edges u) p (kind_of g.vertices p) n))
    ∙ ap (λ k. not_XY g + one_if (plane_test u k)) (complement_kind-self u (joined g.edges u) (kind_of g.vertices u)))
    (complemented_plane (plane_of g u) (phase_of g u))
  where
    change : Change
    change = complement_kind u (joined g.edges u)

    balanced : (a a' b x y z o : ℕ) → a ≡ a' → a' + x ≡ b + y → x + z ≡ y + o → a + o ≡ b + z
    balanced a a' b x y z o e f g = omega arith

pub complement_symmetric : (g : Graph) (u : ℕ) → Symmetric (λ p q. xor (joined g.edges p q) (joined g.edges u p && joined g.edges u q))
complement_symmetric g u p q = ap₂ xor (joined_comm g.edges p q) (and_comm (joined g.edges u p) (joined g.edges u q))

module _ (g : Graph) (w : WellFormed g) where
  pub after_complement : (u : ℕ) → allowed g (LocalComplement u) ≡ true → IsLocalComplement g u (after (LocalComplement u) g)
  after_complement u h =
      record {
        there = and-left _ _ h;
        interior = interior_from g u (and-right _ _ h);
        vertices = refl;
        edges = λ p q n. ap (λ vs. joined (edges_of (λ p q. xor (joined g.edges p q) (joined g.edges u p && joined g.edges u q)) vs) p q) (ids-with_kinds (complement_kind u (joined g.edges u)) g.vertices)
            ∙ edges_full (λ p q. xor (joined g.edges p q) (joined g.edges u p && joined g.edges u q)) (ids g.vertices) p q (complement_symmetric g u) n
            (λ f. ap₂ (λ a b. xor a (b && joined g.edges u q)) (absent_left g w p q f) (absent_right g w u p f))
            (λ f. ap₂ (λ a b. xor a (joined g.edges u p && b)) (absent_right g w p q f) (absent_right g w u q f) ∙ and-false (joined g.edges u p));
        frame = record { ordered = OrderedEdges-edges_of _ _ (rising_kinds g w (complement_kind u (joined g.edges u))); inputs = refl; outputs = refl };
      }

-- a local complement keeps the neighbours of its vertex
pub complement_near : (g : Graph) (u : ℕ) (h : Graph) → WellFormed g → IsLocalComplement g u h → (p : ℕ) → joined h.edges u p ≡ joined g.edges u p
complement_near g u h w c p =
    by_equal p u
    (λ t e. ap (joined h.edges u) e ∙ joined-self h.edges u c.frame.ordered.lower_first ∙ sym (no_loop g u w) ∙ ap (joined g.edges u) (sym e))
    (λ f n. c.edges u p (λ e. n (sym e)) ∙ ap (λ b. xor (joined g.edges u p) (b && joined g.edges u p)) (no_loop g u w) ∙ xor-false (joined g.edges u p))

pub complement_twice : (g : Graph) (u : ℕ) (h k : Graph) → WellFormed g → IsLocalComplement g u h → IsLocalComplement h u k → k.edges ≡ g.edges
complement_twice g u h k w c d =
    edges_ext k.edges g.edges d.frame.ordered.lower_first w.edges.lower_first d.frame.ordered.rising w.edges.rising
    (λ p q n. d.edges p q n
    ∙ ap₂ xor (c.edges p q n) (ap₂ (λ a b. a && b) (complement_near g u h w c p) (complement_near g u h w c q))
    ∙ toggled_back (joined g.edges p q) (joined g.edges u p && joined g.edges u q))

complemented-four_in : (plane : Plane) (k : ℕ) → k < turn → complemented (complemented (complemented (complemented_in plane k))) ≡ in_plane plane k
complemented-four_in XY k h = ap (in_plane XY) (omega arith)
complemented-four_in XZ k h = ap (in_plane XZ) (omega arith)
complemented-four_in YZ k h = ap (in_plane YZ) (omega arith)

quarter_turned-four : (kind : Kind) → kind.phase < turn → quarter_turned (quarter_turned (quarter_turned (quarter_turned kind))) ≡ kind
quarter_turned-four kind h =
    quarter_turned-quarter_turned (quarter_turned (quarter_turned kind)) ∙ ap half_turned (quarter_turned-quarter_turned kind) ∙ half_turned-half_turned kind h

chosen : Bool → Bool → (Kind → Kind) → (Kind → Kind) → Kind → Kind
chosen s b c d k = cond s (c k) (cond b (d k) k)

chosen-four : (s b : Bool) (k : Kind) (c d : Kind → Kind) → c (c (c (c k))) ≡ k → d (d (d (d k))) ≡ k → chosen s b c d (chosen s b c d (chosen s b c d (chosen s b c d k))) ≡ k
unfolding chosen
chosen-four true b k c d e f = e
chosen-four false true k c d e f = f
chosen-four false false k c d e f = refl

pub complement_four : (g : Graph) (u : ℕ) (h i j k : Graph) → WellFormed g → IsLocalComplement g u h → IsLocalComplement h u i → IsLocalComplement i u j → IsLocalComplement j u k → k ≡ g
unfolding chosen
complement_four g u h i j k w a b c d =
    same_graph k g vertices edges (KeepsEnds-then g i k (KeepsEnds-then g h i a.frame b.frame) (KeepsEnds-then i j k c.frame d.frame))
  where
    wh : WellFormed h
    wh = local_complement_kept g u h w a

    wi : WellFormed i
    wi = local_complement_kept h u i wh b

    wj : WellFormed j
    wj = local_complement_kept i u j wi c

    edges : k.edges ≡ g.edges
    edges = complement_twice i u j k wi c d ∙ complement_twice g u h i w a b

    at_h : joined h.edges u ≡ joined g.edges u
    at_h = λ t p. complement_near g u h w a p t

    at_i : joined i.edges u ≡ joined g.edges u
    at_i = (λ t p. complement_near h u i wh b p t) ∙ at_h

    at_j : joined j.edges u ≡ joined g.edges u
    at_j = (λ t p. complement_near i u j wi c p t) ∙ at_i

    f : ℕ → Kind → Kind
    f = complement_kind u (joined g.edges u)

    four : with_kinds f (with_kinds f (with_kinds f (with_kinds f g.vertices))) ≡ g.vertices
    four =
        with_kinds-with_kinds f f (with_kinds f (with_kinds f g.vertices))
        ∙ ap (with_kinds (λ p k. f p (f p k))) (with_kinds-with_kinds f f g.vertices)
        ∙ with_kinds-with_kinds (λ p k. f p (f p k)) (λ p k. f p (f p k)) g.vertices
        ∙ with_kinds-kept (λ p k. f p (f p (f p (f p k)))) g.vertices w.phases_below_a_turn
        (λ p kind below. chosen-four (eqb p u) (joined g.edges u p) kind complemented quarter_turned (complemented-four_in kind.plane kind.phase below) (quarter_turned-four kind below))

    vertices : k.vertices ≡ g.vertices
    vertices =
        d.vertices ∙ ap₂ (λ n vs. with_kinds (complement_kind u n) vs) at_j
        (c.vertices ∙ ap₂ (λ n vs. with_kinds (complement_kind u n) vs) at_i
        (b.vertices ∙ ap₂ (λ n vs. with_kinds (complement_kind u n) vs) at_h a.vertices))
        ∙ four
