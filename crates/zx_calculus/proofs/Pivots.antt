-- The pivot: the form of the graph, the sum, the counts, the program, and identities.
use Rattle.std.proofs.Common.{◌≡◌, ◌≢◌, ◌⊎◌, inl, inr, refl, sym, ◌∙◌, ap, subst, ℕ, ◌<◌, Bool, true, false, cond, ◌&&◌, ◌||◌, eqb, List, [], ◌∷◌, true≢false, ne_eqb, ltb-true, arith, ap₂, not, ◌+◌}
use Rattle.zx_model.specs.Phase.{quarter_turn, opposite_phase, turn, is_odd}
use Rattle.zx_model.specs.Constants.{two}
use Rattle.zx_model.specs.Number.{Number, sign, add, mul, one, neg}
use Rattle.zx_model.specs.Sums.{labelled, sum_over}
use Rattle.zx_model.specs.Bits.{xor, member, one_if}
use Rattle.zx_model.proofs.Ring.{expand, sorted, mul-sign}
use Rattle.zx_model.proofs.SumLemmas.{sum_over_same, labelled-same, sum_over_scaled}
use Rattle.zx_model.proofs.Odd.{is_odd-quarter_minus}
use Rattle.zx_model.proofs.BitLemmas.{expand as expand_bits}
use Rattle.zx_calculus.specs.Graph.{YZ, Plane, XY, XZ, end_vertices, WellFormed, joined, Graph, Kind, kind_of, IsVertex, Interior, ids, Vertex, without, plane_of, with_kinds, phase_of, is_XY, is_YZ, is_interior}
use Rattle.zx_calculus.specs.Turns.{pivoted_in, half_turned, pivoted}
use Rattle.zx_calculus.specs.Pivots.{pivot_kind, IsPivot, pivot_adjacent}
use Rattle.zx_calculus.specs.Sum.{factor, graph_sum, vertex_product}
use Rattle.zx_calculus.specs.Parity.{masked}
use Rattle.zx_calculus.specs.Internal.Pairs.{quad}
use Rattle.zx_calculus.proofs.Factors.{product_of, half_cost, pivot_right_in, pivot_right}
use Rattle.zx_calculus.specs.Counts.{odd_phases, even_interior, not_XY}
use Rattle.zx_calculus.specs.Adjacency.{edges_of}
use Rattle.zx_calculus.specs.Steps.{Pivot, allowed, after}
use Rattle.zx_calculus.specs.Complements.{IsLocalComplement}
use Rattle.zx_calculus.proofs.Kept.{sum_below, Below, cond_below, half_below, cond_XY, half_XY, KeepsXY, KeepsEnds-then, kept_kinds}
use Rattle.zx_calculus.proofs.Ids.{apart_of_member, removed, member-removed_other, masked_front, Distinct-removed, eqb-self, Distinct, member-absent_removed, by_equal, Symmetric, and-right, and-left, by_test}
use Rattle.zx_calculus.proofs.Forms.{transform, form_front, at_ends, ids-without, over_value, masked-labelled, value, at_ends-ignores}
use Rattle.zx_calculus.proofs.Edges.{joined_comm, quad_same}
use Rattle.zx_calculus.proofs.Vertices.{kind_of-without, kind_of-with_kinds, ids-with_kinds, product_of-without, phase-kind_of, turned_product, list_all-without, without-with_kinds, turn_near, with_kinds_same, all_below_a_turn}
use Rattle.zx_calculus.proofs.Splitting.{member-without, distinct_without, sum_without, no_loop, distinct}
use Rattle.zx_calculus.proofs.Turning.{around, exchange, picked_signs, half_factor_in}
use Rattle.zx_calculus.proofs.Gathering.{gather, with_parts, parts_are}
use Rattle.zx_calculus.proofs.Booleans.{xor_comm, and-false, or-true, parities, and_comm, or_comm}
use Rattle.zx_calculus.proofs.Parity.{quad-xor, cross_identity, masked_same}
use Rattle.zx_calculus.proofs.Counting.{half_odd, cond_odd, KeepsOdd, phases_below, odd_changed, odd_test, even_kept, even_test, even_changed, cond_plane, half_plane, plane_test, Change}
use Rattle.zx_calculus.proofs.CountLemmas.{count, count_apart_two, count-with_kinds}
use Rattle.zx_calculus.proofs.Programs.{absent_right, edges_full, rising_kinds, absent_left}
use Rattle.zx_calculus.proofs.Results.{interior_from}
use Rattle.zx_calculus.proofs.EdgeLists.{OrderedEdges-edges_of, edges_ext}
use Rattle.zx_calculus.proofs.StepIdentities.{same_graph, agree, half_turned_in-twice, pivoted_in-twice}
use Rattle.zx_calculus.proofs.Complements.{complement_near, local_complement_kept}

pivoted_below : (plane : Plane) (k : ℕ) → k < turn → (pivoted_in plane k).phase < turn
pivoted_below XY k h = h
pivoted_below XZ k h = sum_below quarter_turn (opposite_phase k)
pivoted_below YZ k h = h

pivot_kind_below : (u v : ℕ) (near_u near_v : ℕ → Bool) → Below (pivot_kind u v near_u near_v)
pivot_kind_below u v near_u near_v p k h = cond_below (eqb p u || eqb p v) _ _ (pivoted_below k.plane k.phase h) (cond_below (near_u p && near_v p) _ _ (half_below k.plane k.phase h) h)

pivot_XY : (u v : ℕ) (near_u near_v : ℕ → Bool) (p : ℕ) → p ≢ u → p ≢ v → KeepsXY (pivot_kind u v near_u near_v) p
pivot_XY u v near_u near_v p m n k h =
    let apart : eqb p u ≡ false = ne_eqb p u m in
    let apart_too : eqb p v ≡ false = ne_eqb p v n in
    rw (apart, apart_too) (cond_XY (near_u p && near_v p) (half_turned k) k (half_XY k.plane k.phase h) h)

pub pivot_kept : (g : Graph) (u v : ℕ) (h : Graph) → WellFormed g → IsPivot g u v h → WellFormed h
pivot_kept g u v h w c =
    kept_kinds g (pivot_kind u v (joined g.edges u) (joined g.edges v)) h w (pivot_kind_below u v (joined g.edges u) (joined g.edges v))
    (λ p t. pivot_XY u v (joined g.edges u) (joined g.edges v) p (apart_of_member p u (end_vertices g.inputs) t c.interior.no_input) (apart_of_member p v (end_vertices g.inputs) t c.interior_too.no_input))
    (λ p t. pivot_XY u v (joined g.edges u) (joined g.edges v) p (apart_of_member p u (end_vertices g.outputs) t c.interior.no_output) (apart_of_member p v (end_vertices g.outputs) t c.interior_too.no_output))
    c.vertices c.frame

-- both labels of two adjacent vertices, at the parities p and q of the labels of their other neighbours
abbrev pub pair_sum : Kind → Kind → Bool → Bool → Number
pair_sum k l p q = add (mul (factor l false) (transform k p)) (mul (mul (factor l true) (sign q)) (transform k (not p)))

distribute : (r s f e F t p q E : Number) → mul p (mul q (add (mul f (mul t E)) (mul (mul F s) (mul r E)))) ≡ mul (add (mul f t) (mul (mul F s) r)) (mul p (mul q E))
distribute r s f e F t p q E = simp expand

pub move_inside : (t p q e : Number) → mul t (mul p (mul q e)) ≡ mul p (mul q (mul t e))
move_inside t p q e = simp sorted

-- two adjacent interior vertices summed out
module _ (g : Graph) (u v : ℕ) (w : WellFormed g) (there : IsVertex g u) (there_too : IsVertex g v) (interior : Interior g u) (interior_too : Interior g v) (adjacent : joined g.edges u v ≡ true) (x y : List Bool) where
  abbrev a : ℕ → ℕ → Bool
  a = joined g.edges

  abbrev wu : List Vertex
  wu = without u g.vertices

  abbrev ws : List Vertex
  ws = without v (without u g.vertices)

  abbrev rest : (ℕ → Bool) → Number
  rest = at_ends g.inputs g.outputs x y

  abbrev with_u : (ℕ → Bool) → Number
  with_u label = mul (transform (kind_of g.vertices u) (masked (a u) (ids wu) label)) (rest label)

  v≢u : v ≢ u
  v≢u e = true≢false (sym adjacent ∙ ap (a u) e ∙ no_loop g u w)

  v_there : member v (ids wu) ≡ true
  v_there = ap (member v) (ids-without u g.vertices) ∙ member-removed_other v u (ids g.vertices) v≢u ∙ there_too

  with_label : (label : ℕ → Bool) (d : Bool) → with_u (labelled label v d) ≡ mul (transform (kind_of g.vertices u) (xor d (masked (a u) (ids ws) label))) (rest label)
  with_label label d =
      ap₂ (λ m e. mul (transform (kind_of g.vertices u) m) e)
      (masked_front (a u) v (ids wu) (labelled label v d) (distinct_without g u w) v_there
      ∙ ap (λ b. xor (b && labelled label v d v) (masked (a u) (removed v (ids wu)) (labelled label v d))) adjacent
      ∙ ap₂ (λ b is. xor b (masked (a u) is (labelled label v d))) (labelled-same label v d) (sym (ids-without v wu))
      ∙ ap (xor d) (masked-labelled (a u) v (ids ws) label d (member-without v wu)))
      (at_ends-ignores g.inputs g.outputs x y v interior_too.no_input interior_too.no_output label d)

  pub pair_out : graph_sum g x y ≡ sum_over (ids (without v (without u g.vertices)))
      (λ label. mul (pair_sum (kind_of g.vertices u) (kind_of g.vertices v) (masked (joined g.edges u) (ids (without v (without u g.vertices))) label) (masked (joined g.edges v) (ids (without v (without u g.vertices))) label))
      (value (joined g.edges) (at_ends g.inputs g.outputs x y) (without v (without u g.vertices)) label))
  pair_out =
      sum_without g u x y w there interior
      ∙ sum_over_same (ids wu) _ _ (λ label. move_inside _ _ _ _)
      ∙ form_front a with_u v wu (joined_comm g.edges) (distinct_without g u w) v_there
      ∙ sum_over_same (ids ws) _ _
      (λ label. over_value a with_u (kind_of wu v) v ws label (member-without v wu)
      ∙ ap (λ k. mul (vertex_product ws label) (mul (sign (quad a (ids ws) label))
      (add (mul (factor k false) (with_u (labelled label v false))) (mul (mul (factor k true) (sign (masked (a v) (ids ws) label))) (with_u (labelled label v true))))))
      (kind_of-without v u g.vertices v≢u)
      ∙ ap₂ (λ c d. mul (vertex_product ws label) (mul (sign (quad a (ids ws) label))
      (add (mul (factor (kind_of g.vertices v) false) c) (mul (mul (factor (kind_of g.vertices v) true) (sign (masked (a v) (ids ws) label))) d))))
      (with_label label false) (with_label label true)
      ∙ distribute _ _ _ one _ _ _ _ _)

-- the new pair, with the constants at the factors that they belong to
collect : (l m s f F c d sq nq sp : Number) →
    mul (mul l m) (mul s (add (mul c (add f (mul F sq))) (mul (mul d sp) (add f (mul F nq)))))
    ≡ mul s (add (mul (mul m c) (add (mul l f) (mul (mul l F) sq))) (mul (mul (mul m d) sp) (add (mul l f) (mul (mul l F) nq))))
collect l m s f F c d sq nq sp = simp expand

-- the Hadamard transform twice
back_even : (a b : Number) → add (add a (mul b one)) (mul (add a (mul b (neg one))) one) ≡ mul two a
back_even a b = simp expand

back_odd : (a b : Number) → add (add a (mul b one)) (mul (add a (mul b (neg one))) (neg one)) ≡ mul two b
back_odd a b = simp expand (around a b)

-- a, b: the factors of v; c, d: those of u
pair_identity_flat : (p q : Bool) (a b c d : Number) →
    mul two (add (mul a (add c (mul d (sign p)))) (mul (mul b (sign q)) (add c (mul d (sign (not p))))))
    ≡ mul (sign (p && q)) (add (mul (add a (mul b one)) (add (add c (mul d one)) (mul (add c (mul d (neg one))) (sign q)))) (mul (mul (add a (mul b (neg one))) (sign p)) (add (add c (mul d one)) (mul (add c (mul d (neg one))) (sign (not q))))))
pair_identity_flat true true a b c d = rw (back_odd c d, back_even c d) (simp expand)
pair_identity_flat true false a b c d = rw (back_even c d, back_odd c d) (simp expand)
pair_identity_flat false true a b c d = rw (back_odd c d, back_even c d) (simp expand)
pair_identity_flat false false a b c d = rw (back_even c d, back_odd c d) (simp expand)

-- left 2 on the old pair, the two vertices' own factors on the new one, with the edges between their neighbours
pub pair_identity : (k l : Kind) (p q : Bool) → k.phase < turn → l.phase < turn →
    mul two (pair_sum k l p q) ≡ mul (mul (pivot_right_in k.plane k.phase) (pivot_right_in l.plane l.phase)) (mul (sign (p && q)) (pair_sum (pivoted k) (pivoted l) q p))
pair_identity k l p q k_below l_below =
    pair_identity_flat p q (factor l false) (factor l true) (factor k false) (factor k true)
    ∙ ap₂ (λ s t. mul (sign (p && q)) (add (mul s (add (transform k false) (mul (transform k true) (sign q)))) (mul (mul t (sign p)) (add (transform k false) (mul (transform k true) (sign (not q)))))))
    (exchange l.plane l.phase false l_below) (exchange l.plane l.phase true l_below)
    ∙ ap₂ (λ s t. mul (sign (p && q)) (add (mul (mul m (factor (pivoted l) false)) (add s (mul t (sign q)))) (mul (mul (mul m (factor (pivoted l) true)) (sign p)) (add s (mul t (sign (not q)))))))
    (exchange k.plane k.phase false k_below) (exchange k.plane k.phase true k_below)
    ∙ sym (collect (pivot_right_in k.plane k.phase) m (sign (p && q)) (factor (pivoted k) false) (factor (pivoted k) true) (factor (pivoted l) false) (factor (pivoted l) true) (sign q) (sign (not q)) (sign p))
  where
    m : Number
    m = pivot_right_in l.plane l.phase

module _ (g : Graph) (u v : ℕ) (h : Graph) (wg : WellFormed g) (wh : WellFormed h) (c : IsPivot g u v h) where
  abbrev near_u : ℕ → Bool
  near_u = joined g.edges u

  abbrev near_v : ℕ → Bool
  near_v = joined g.edges v

  abbrev common : ℕ → Bool
  common p = near_u p && near_v p

  abbrev cross : ℕ → ℕ → Bool
  cross p q = xor (near_u p && near_v q) (near_v p && near_u q)

  abbrev others : List Vertex
  others = without v (without u g.vertices)

  abbrev kinds : ℕ → Kind → Kind
  kinds = pivot_kind u v (joined g.edges u) (joined g.edges v)

  abbrev changed : List Vertex
  changed = with_kinds (pivot_kind u v (joined g.edges u) (joined g.edges v)) g.vertices

  abbrev turned : List Vertex
  turned = with_kinds (turn_near half_turned common) others

  abbrev ku : Kind
  ku = kind_of g.vertices u

  abbrev kv : Kind
  kv = kind_of g.vertices v

  same_shape : h ≡ with_parts g changed h.edges
  same_shape = parts_are g h changed c.vertices c.frame

  u_other : (p : ℕ) → member p (ids others) ≡ true → p ≢ u
  u_other p t =
      apart_of_member p u (ids others) t (ap (member u) (ids-without v (without u g.vertices)) ∙ member-absent_removed u v (ids (without u g.vertices)) (member-without u g.vertices))

  v_other : (p : ℕ) → member p (ids others) ≡ true → p ≢ v
  v_other p t = apart_of_member p v (ids others) t (member-without v (without u g.vertices))

  kind_u : kind_of changed u ≡ pivoted ku
  kind_u = kind_of-with_kinds kinds u g.vertices c.there ∙ ap (λ b. cond (b || eqb u v) (pivoted ku) (cond (common u) (half_turned ku) ku)) (eqb-self u)

  kind_v : kind_of changed v ≡ pivoted kv
  kind_v =
      kind_of-with_kinds kinds v g.vertices c.there_too
      ∙ ap (λ b. cond (eqb v u || b) (pivoted kv) (cond (common v) (half_turned kv) kv)) (eqb-self v)
      ∙ ap (λ b. cond b (pivoted kv) (cond (common v) (half_turned kv) kv)) (or-true (eqb v u))

  rest_after : without v (without u changed) ≡ turned
  rest_after =
      ap (without v) (without-with_kinds kinds u g.vertices)
      ∙ without-with_kinds kinds v (without u g.vertices)
      ∙ with_kinds_same _ _ others
      (λ p k t. ap₂ (λ a b. cond (a || b) (pivoted k) (cond (common p) (half_turned k) k)) (ne_eqb p u (u_other p t)) (ne_eqb p v (v_other p t)))

  module _ (x y : List Bool) where
    abbrev at_end : (ℕ → Bool) → Number
    at_end = at_ends g.inputs g.outputs x y

    abbrev summand : Kind → Kind → List ℕ → List Vertex → (ℕ → Bool) → Number
    summand k l is vs label =
        mul (pair_sum k l (masked (joined h.edges u) is label) (masked (joined h.edges v) is label)) (mul (vertex_product vs label) (mul (sign (quad (joined h.edges) is label)) (at_end label)))

    sum_after : graph_sum h x y ≡ sum_over (ids others) (summand (pivoted ku) (pivoted kv) (ids others) turned)
    sum_after =
        ap (λ k. graph_sum k x y) same_shape
        ∙ pair_out (with_parts g changed h.edges) u v (subst WellFormed same_shape wh)
        (ap (member u) (ids-with_kinds kinds g.vertices) ∙ c.there) (ap (member v) (ids-with_kinds kinds g.vertices) ∙ c.there_too)
        (record { no_input = c.interior.no_input; no_output = c.interior.no_output }) (record { no_input = c.interior_too.no_input; no_output = c.interior_too.no_output })
        c.still_adjacent x y
        ∙ ap₂ (λ k l. sum_over (ids (without v (without u changed))) (summand k l (ids (without v (without u changed))) (without v (without u changed)))) kind_u kind_v
        ∙ ap (λ vs. sum_over (ids vs) (summand (pivoted ku) (pivoted kv) (ids vs) vs)) rest_after
        ∙ ap (λ is. sum_over is (summand (pivoted ku) (pivoted kv) is turned)) (ids-with_kinds (turn_near half_turned common) others)

    distinct_others : Distinct (ids others)
    distinct_others = rw (ids-without v (without u g.vertices)) (Distinct-removed v (ids (without u g.vertices)) (distinct_without g u wg))

    parity_u : (label : ℕ → Bool) → masked (joined h.edges u) (ids others) label ≡ masked near_v (ids others) label
    parity_u label = masked_same (joined h.edges u) near_v (ids others) label (λ p t. c.of_u p (u_other p t) (v_other p t))

    parity_v : (label : ℕ → Bool) → masked (joined h.edges v) (ids others) label ≡ masked near_u (ids others) label
    parity_v label = masked_same (joined h.edges v) near_u (ids others) label (λ p t. c.of_v p (u_other p t) (v_other p t))

    edges_after : (label : ℕ → Bool) → quad (joined h.edges) (ids others) label ≡ xor (quad (joined g.edges) (ids others) label) (quad cross (ids others) label)
    edges_after label =
        quad_same (joined h.edges) (λ p q. xor (joined g.edges p q) (cross p q)) (ids others) label distinct_others
        (λ p q s t n. c.between p q (u_other p s) (v_other p s) (u_other q t) (v_other q t) n)
        ∙ quad-xor (joined g.edges) cross (ids others) label

    abbrev cost : Number
    cost = product_of common half_cost others

    abbrev own : Number
    own = mul (pivot_right_in (plane_of g u) (phase_of g u)) (pivot_right_in (plane_of g v) (phase_of g v))

    at_label : (label : ℕ → Bool) →
        mul two (mul (pair_sum ku kv (masked near_u (ids others) label) (masked near_v (ids others) label)) (value (joined g.edges) at_end others label))
        ≡ mul (mul own cost) (summand (pivoted ku) (pivoted kv) (ids others) turned label)
    at_label label =
        gather two own cost (pair_sum ku kv (masked near_u (ids others) label) (masked near_v (ids others) label)) (pair_sum (pivoted ku) (pivoted kv) (masked near_v (ids others) label) (masked near_u (ids others) label))
        (vertex_product others label) (vertex_product turned label) (sign (masked common (ids others) label)) (sign (masked near_u (ids others) label && masked near_v (ids others) label))
        (sign (quad (joined g.edges) (ids others) label)) (sign (quad cross (ids others) label)) (at_end label)
        (pair_identity ku kv (masked near_u (ids others) label) (masked near_v (ids others) label) (phase-kind_of u g.vertices wg.phases_below_a_turn) (phase-kind_of v g.vertices wg.phases_below_a_turn))
        (turned_product half_cost half_turned sign common others label (λ k b below. half_factor_in k.plane k.phase b below) refl
        (list_all-without _ v (without u g.vertices) (list_all-without _ u g.vertices wg.phases_below_a_turn))
        ∙ ap (λ s. mul s (vertex_product others label)) (picked_signs common (ids others) label))
        (mul-sign (masked common (ids others) label) (quad cross (ids others) label)
        ∙ ap sign (xor_comm (masked common (ids others) label) (quad cross (ids others) label) ∙ cross_identity near_u near_v (ids others) label))
        ∙ ap₂ (λ m n. mul (mul own cost) (mul (pair_sum (pivoted ku) (pivoted kv) m n) (mul (vertex_product turned label) (mul (mul (sign (quad (joined g.edges) (ids others) label)) (sign (quad cross (ids others) label))) (at_end label)))))
        (sym (parity_u label)) (sym (parity_v label))
        ∙ ap (λ s. mul (mul own cost) (mul (pair_sum (pivoted ku) (pivoted kv) (masked (joined h.edges u) (ids others) label) (masked (joined h.edges v) (ids others) label)) (mul (vertex_product turned label) (mul s (at_end label)))))
        (mul-sign (quad (joined g.edges) (ids others) label) (quad cross (ids others) label) ∙ ap sign (sym (edges_after label)))

    not_common : (p : ℕ) → p ≡ u ⊎ p ≡ v → common p ≡ false
    not_common p (inl e) = ap (λ w. near_u w && near_v w) e ∙ ap (λ b. b && near_v u) (no_loop g u wg)
    not_common p (inr e) = ap (λ w. near_u w && near_v w) e ∙ ap (λ b. near_u v && b) (no_loop g v wg) ∙ and-false (near_u v)

    pub pivot_sum : mul two (graph_sum g x y) ≡ mul (pivot_right g u v) (graph_sum h x y)
    pivot_sum =
        ap (mul two) (pair_out g u v wg c.there c.there_too c.interior c.interior_too c.adjacent x y)
        ∙ sum_over_scaled two (mul own cost) (ids others) _ _ at_label
        ∙ ap₂ mul
        (ap (mul own) (product_of-without common half_cost v (without u g.vertices) (not_common v (inr refl)) ∙ product_of-without common half_cost u g.vertices (not_common u (inl refl))))
        (sym sum_after)

pivoted_odd : (plane : Plane) (k : ℕ) → k < turn → is_odd (pivoted_in plane k).phase ≡ is_odd k
pivoted_odd XY k h = refl
pivoted_odd XZ k h = is_odd-quarter_minus k h
pivoted_odd YZ k h = refl

pivot_keeps_odd : (u v : ℕ) (near_u near_v : ℕ → Bool) → KeepsOdd (pivot_kind u v near_u near_v)
pivot_keeps_odd u v near_u near_v p k h = cond_odd (eqb p u || eqb p v) _ _ _ (pivoted_odd k.plane k.phase h) (cond_odd (near_u p && near_v p) _ _ _ (half_odd k.plane k.phase h) refl)

pub odd-pivot : (g : Graph) (u v : ℕ) (h : Graph) → WellFormed g → IsPivot g u v h → odd_phases h ≡ odd_phases g
odd-pivot g u v h w c =
    ap (count odd_test) c.vertices
    ∙ odd_changed g (pivot_kind u v (joined g.edges u) (joined g.edges v)) g.vertices (pivot_keeps_odd u v (joined g.edges u) (joined g.edges v)) (distinct g w) (phases_below g w)

pub even-pivot : (g : Graph) (u v : ℕ) (h : Graph) → WellFormed g → IsPivot g u v h → even_interior h ≡ even_interior g
even-pivot g u v h w c =
    even_kept g h c.frame ∙ ap (count (even_test g)) c.vertices
    ∙ even_changed g (pivot_kind u v (joined g.edges u) (joined g.edges v)) g.vertices (pivot_keeps_odd u v (joined g.edges u) (joined g.edges v)) (distinct g w) (phases_below g w)

pivoted_plane : (plane : Plane) (k : ℕ)
    → one_if (not (is_XY plane)) + one_if (is_XY plane) ≡ one_if (not (is_XY (pivoted_in plane k).plane)) + one_if (is_YZ plane)
pivoted_plane XY k = refl
pivoted_plane XZ k = refl
pivoted_plane YZ k = refl

pivot_kind-first : (u v : ℕ) (near_u near_v : ℕ → Bool) (k : Kind) → pivot_kind u v near_u near_v u k ≡ pivoted k
pivot_kind-first u v near_u near_v k = ap (λ b. cond (b || eqb u v) (pivoted k) (cond (near_u u && near_v u) (half_turned k) k)) (eqb-self u)

pivot_kind-second : (u v : ℕ) (near_u near_v : ℕ → Bool) (k : Kind) → pivot_kind u v near_u near_v v k ≡ pivoted k
pivot_kind-second u v near_u near_v k =
    ap (λ b. cond (eqb v u || b) (pivoted k) (cond (near_u v && near_v v) (half_turned k) k)) (eqb-self v)
    ∙ ap (λ b. cond b (pivoted k) (cond (near_u v && near_v v) (half_turned k) k)) (or-true (eqb v u))

pivot_plane-other : (u v : ℕ) (near_u near_v : ℕ → Bool) (p : ℕ) (k : Kind) → p ≢ u → p ≢ v → is_XY (pivot_kind u v near_u near_v p k).plane ≡ is_XY k.plane
pivot_plane-other u v near_u near_v p k n m =
    ap₂ (λ a b. is_XY (cond (a || b) (pivoted k) (cond (near_u p && near_v p) (half_turned k) k)).plane) (ne_eqb p u n) (ne_eqb p v m)
    ∙ cond_plane (near_u p && near_v p) (half_turned k) k (is_XY k.plane) (half_plane k.plane k.phase) refl

adjacent_differ : (g : Graph) (u v : ℕ) → WellFormed g → joined g.edges u v ≡ true → u ≢ v
adjacent_differ g u v w e same = true≢false (sym e ∙ ap (joined g.edges u) (sym same) ∙ no_loop g u w)

pub planes-pivot : (g : Graph) (u v : ℕ) (h : Graph) → WellFormed g → IsPivot g u v h
    → not_XY h + one_if (is_YZ (plane_of g u)) + one_if (is_YZ (plane_of g v)) ≡ not_XY g + one_if (is_XY (plane_of g u)) + one_if (is_XY (plane_of g v))
planes-pivot g u v h w c =
    balanced _ _ _ _ _ _ _ _ _ _ _ (ap (count plane_test) c.vertices ∙ count-with_kinds plane_test change g.vertices)
    (count_apart_two (λ p k. plane_test p (change p k)) plane_test u v g.vertices (distinct g w) c.there c.there_too (adjacent_differ g u v w c.adjacent)
    (λ p m n n'. ap not (pivot_plane-other u v (joined g.edges u) (joined g.edges v) p (kind_of g.vertices p) n n'))
    ∙ ap₂ (λ k l. not_XY g + (one_if (plane_test u k) + one_if (plane_test v l)))
    (pivot_kind-first u v (joined g.edges u) (joined g.edges v) (kind_of g.vertices u))
    (pivot_kind-second u v (joined g.edges u) (joined g.edges v) (kind_of g.vertices v)))
    (pivoted_plane (plane_of g u) (phase_of g u)) (pivoted_plane (plane_of g v) (phase_of g v))
  where
    change : Change
    change = pivot_kind u v (joined g.edges u) (joined g.edges v)

    balanced : (a a' b x x' y y' z z' o o' : ℕ) → a ≡ a' → a' + (x + x') ≡ b + (y + y') → x + z ≡ y + o → x' + z' ≡ y' + o' → a + o + o' ≡ b + z + z'
    balanced a a' b x x' y y' z z' o o' e f g h = omega arith

-- a pivot's adjacency, case by case
pub pivot_at_u : (a : ℕ → ℕ → Bool) (u v p : ℕ) → p ≢ v → pivot_adjacent a u v u p ≡ a v p
pivot_at_u a u v p n = rw (eqb-self u, ne_eqb p v n)

pub pivot_at_v : (a : ℕ → ℕ → Bool) (u v p : ℕ) → u ≢ v → p ≢ u → pivot_adjacent a u v v p ≡ a u p
pivot_at_v a u v p n m = rw (ne_eqb v u (λ e. n (sym e)), eqb-self v, ne_eqb p u m)

pub pivot_between : (a : ℕ → ℕ → Bool) (u v p q : ℕ) → p ≢ u → p ≢ v → q ≢ u → q ≢ v → pivot_adjacent a u v p q ≡ xor (a p q) (xor (a u p && a v q) (a v p && a u q))
pivot_between a u v p q i j k l = rw (ne_eqb p u i, ne_eqb p v j, ne_eqb q u k, ne_eqb q v l)

pub pivot_together : (a : ℕ → ℕ → Bool) (u v : ℕ) → pivot_adjacent a u v u v ≡ true
pivot_together a u v = rw (eqb-self u, eqb-self v)

pivot_to_u : (a : ℕ → ℕ → Bool) (u v p : ℕ) → p ≢ u → p ≢ v → pivot_adjacent a u v p u ≡ a v p
pivot_to_u a u v p i j = rw (ne_eqb p u i, ne_eqb p v j, eqb-self u)

pivot_to_v : (a : ℕ → ℕ → Bool) (u v p : ℕ) → u ≢ v → p ≢ u → p ≢ v → pivot_adjacent a u v p v ≡ a u p
pivot_to_v a u v p n i j = rw (ne_eqb p u i, ne_eqb p v j, ne_eqb v u (λ e. n (sym e)), eqb-self v)

cross_swap : (r x y z t : Bool) → xor r (xor (x && y) (z && t)) ≡ xor r (xor (t && z) (y && x))
cross_swap r x y z t = simp parities

pub pivot_symmetric : (a : ℕ → ℕ → Bool) (u v : ℕ) → u ≢ v → Symmetric a → Symmetric (pivot_adjacent a u v)
pivot_symmetric a u v n s p q =
    by_equal p u
    (λ t e. rw e (by_equal q u (λ t' e'. rw e' refl)
    (λ f m. by_equal q v (λ t' e'. rw e' (pivot_together a u v ∙ sym back))
    (λ f' m'. pivot_at_u a u v q m' ∙ sym (pivot_to_u a u v q m m')))))
    (λ f i. by_equal p v
    (λ t e. rw e (by_equal q u (λ t' e'. rw e' (back ∙ sym (pivot_together a u v)))
    (λ f' m. by_equal q v (λ t' e'. rw e' refl) (λ g m'. pivot_at_v a u v q n m ∙ sym (pivot_to_v a u v q n m m')))))
    (λ f' j. by_equal q u (λ t e. rw e (pivot_to_u a u v p i j ∙ sym (pivot_at_u a u v p j)))
    (λ g k. by_equal q v (λ t e. rw e (pivot_to_v a u v p n i j ∙ sym (pivot_at_v a u v p n i)))
    (λ g' l. pivot_between a u v p q i j k l
    ∙ ap (λ r. xor r (xor (a u p && a v q) (a v p && a u q))) (s p q)
    ∙ cross_swap (a q p) (a u p) (a v q) (a v p) (a u q)
    ∙ sym (pivot_between a u v q p k l i j)))))
  where
    back : pivot_adjacent a u v v u ≡ true
    back = rw (ne_eqb v u (λ e. n (sym e)), eqb-self v, eqb-self u)

-- the pivot's fields, as one adjacency
pub pivot_law : (g : Graph) (u v : ℕ) (h : Graph) → (c : IsPivot g u v h) → u ≢ v → (p q : ℕ) → p ≢ q → joined h.edges p q ≡ pivot_adjacent (joined g.edges) u v p q
pivot_law g u v h c n p q m =
    by_equal p u
    (λ t e. rw e (by_equal q v (λ t' e'. rw e' (c.still_adjacent ∙ sym (pivot_together (joined g.edges) u v)))
    (λ f j. c.of_u q (λ e'. m (e ∙ sym e')) j ∙ sym (pivot_at_u (joined g.edges) u v q j))))
    (λ f i. by_equal p v
    (λ t e. rw e (by_equal q u (λ t' e'. rw e' (joined_comm h.edges v u ∙ c.still_adjacent ∙ sym (pivot_together (joined g.edges) u v) ∙ pivot_symmetric (joined g.edges) u v n (joined_comm g.edges) u v))
    (λ f' j. c.of_v q j (λ e'. m (e ∙ sym e')) ∙ sym (pivot_at_v (joined g.edges) u v q n j))))
    (λ f' j. by_equal q u (λ t e. rw e (joined_comm h.edges p u ∙ c.of_u p i j ∙ sym (pivot_to_u (joined g.edges) u v p i j)))
    (λ g' k. by_equal q v (λ t e. rw e (joined_comm h.edges p v ∙ c.of_v p i j ∙ sym (pivot_to_v (joined g.edges) u v p n i j)))
    (λ g'' l. c.between p q i j k l m ∙ sym (pivot_between (joined g.edges) u v p q i j k l)))))

module _ (g : Graph) (w : WellFormed g) where
  module _ (u v : ℕ) (h : allowed g (Pivot u v) ≡ true) where
    abbrev adjacent_before : ℕ → ℕ → Bool
    adjacent_before = joined g.edges

    u_live : member u (ids g.vertices) ≡ true
    u_live = and-left _ _ (and-left _ _ h)

    v_live : member v (ids g.vertices) ≡ true
    v_live = and-right _ _ (and-left _ _ h)

    u_v : joined g.edges u v ≡ true
    u_v = and-right _ _ (and-right _ _ h)

    apart : u ≢ v
    apart e = true≢false (sym u_v ∙ ap (joined g.edges u) (sym e) ∙ no_loop g u w)

    pivot_full : (p q : ℕ) → p ≢ q → (member p (ids g.vertices) ≡ false → pivot_adjacent adjacent_before u v p q ≡ false) → (member q (ids g.vertices) ≡ false → pivot_adjacent adjacent_before u v p q ≡ false) →
        joined (edges_of (pivot_adjacent adjacent_before u v) (ids (with_kinds (pivot_kind u v (joined g.edges u) (joined g.edges v)) g.vertices))) p q ≡ pivot_adjacent adjacent_before u v p q
    pivot_full p q n no_p no_q =
        ap (λ vs. joined (edges_of (pivot_adjacent adjacent_before u v) vs) p q) (ids-with_kinds (pivot_kind u v (joined g.edges u) (joined g.edges v)) g.vertices)
        ∙ edges_full (pivot_adjacent adjacent_before u v) (ids g.vertices) p q (pivot_symmetric adjacent_before u v apart (joined_comm g.edges)) n no_p no_q

    contrary : (p : ℕ) {P : Type 0} → member p (ids g.vertices) ≡ true → member p (ids g.vertices) ≡ false → P
    contrary p t f = absurd (true≢false (sym t ∙ f))

    pub after_pivot : IsPivot g u v (after (Pivot u v) g)
    after_pivot =
        record {
          there = u_live;
          there_too = v_live;
          interior = interior_from g u (and-left _ _ (and-left _ _ (and-right _ _ h)));
          interior_too = interior_from g v (and-right _ _ (and-left _ _ (and-right _ _ h)));
          adjacent = u_v;
          vertices = refl;
          still_adjacent = pivot_full u v apart (contrary u u_live) (contrary v v_live) ∙ pivot_together adjacent_before u v;
          of_u = λ p i j. pivot_full u p (λ e. i (sym e)) (contrary u u_live) (λ f. pivot_at_u adjacent_before u v p j ∙ absent_right g w v p f) ∙ pivot_at_u adjacent_before u v p j;
          of_v = λ p i j. pivot_full v p (λ e. j (sym e)) (contrary v v_live) (λ f. pivot_at_v adjacent_before u v p apart i ∙ absent_right g w u p f) ∙ pivot_at_v adjacent_before u v p apart i;
          between = λ p q i j k l n. pivot_full p q n
              (λ f. pivot_between adjacent_before u v p q i j k l ∙ ap₂ (λ x y. xor x y) (absent_left g w p q f)
              (ap₂ (λ x y. xor (x && joined g.edges v q) (y && joined g.edges u q)) (absent_right g w u p f) (absent_right g w v p f)))
              (λ f. pivot_between adjacent_before u v p q i j k l ∙ ap₂ (λ x y. xor x y) (absent_right g w p q f)
              (ap₂ (λ x y. xor (joined g.edges u p && x) (joined g.edges v p && y)) (absent_right g w v q f) (absent_right g w u q f)
              ∙ ap₂ xor (and-false (joined g.edges u p)) (and-false (joined g.edges v p))))
              ∙ pivot_between adjacent_before u v p q i j k l;
          frame = record { ordered = OrderedEdges-edges_of _ _ (rising_kinds g w (pivot_kind u v (joined g.edges u) (joined g.edges v))); inputs = refl; outputs = refl };
        }

pub pivot_allowed_comm : (g : Graph) (u v : ℕ) → allowed g (Pivot u v) ≡ allowed g (Pivot v u)
pivot_allowed_comm g u v =
    ap₂ (λ a b. a && b) (and_comm (member u (ids g.vertices)) (member v (ids g.vertices)))
    (ap₂ (λ a b. a && b) (and_comm (is_interior g u) (is_interior g v)) (joined_comm g.edges u v))

cross_comm : (r a b c d : Bool) → xor r (xor (a && b) (c && d)) ≡ xor r (xor (c && d) (a && b))
cross_comm r a b c d = simp parities

pub pivot_comm : (g : Graph) (u v : ℕ) (h : Graph) → IsPivot g u v h → IsPivot g v u h
pivot_comm g u v h c = record {
  there = c.there_too;
  there_too = c.there;
  interior = c.interior_too;
  interior_too = c.interior;
  adjacent = joined_comm g.edges v u ∙ c.adjacent;
  vertices = c.vertices
      ∙ with_kinds_same _ (pivot_kind v u (joined g.edges v) (joined g.edges u)) g.vertices
      (λ p k t. ap₂ (λ a b. cond a (pivoted k) (cond b (half_turned k) k)) (or_comm (eqb p u) (eqb p v)) (and_comm (joined g.edges u p) (joined g.edges v p)));
  still_adjacent = joined_comm h.edges v u ∙ c.still_adjacent;
  of_u = λ p i j. c.of_v p j i;
  of_v = λ p i j. c.of_u p j i;
  between = λ p q i j k l n. c.between p q j i l k n
      ∙ cross_comm (joined g.edges p q) (joined g.edges u p) (joined g.edges v q) (joined g.edges v p) (joined g.edges u q);
  frame = c.frame;
}

-- the adjacency of two vertices other than u and v, toggled by three local complements
three_toggles : (r a b c d : Bool) → xor (xor (xor r (a && c)) (xor b a && xor d c)) (b && d) ≡ xor r (xor (a && d) (b && c))
three_toggles r a b c d = simp expand_bits

pub added_twice : (a b : Bool) → xor a (xor b a) ≡ b
added_twice a b = simp expand_bits

pub pivot_as_complements : (g : Graph) (u v : ℕ) (h i j k : Graph) → WellFormed g → IsPivot g u v h → IsLocalComplement g u i → IsLocalComplement i v j → IsLocalComplement j u k → k.edges ≡ h.edges
pivot_as_complements g u v h i j k w p a b c =
    edges_ext k.edges h.edges c.frame.ordered.lower_first p.frame.ordered.lower_first c.frame.ordered.rising p.frame.ordered.rising
    (agree u v (joined k.edges) (joined h.edges) (joined_comm k.edges) (joined_comm h.edges)
    (k_u v ∙ j_uv ∙ sym p.still_adjacent)
    (λ q n m. k_u q ∙ j_u q n m ∙ sym (p.of_u q n m))
    (λ q n m. k_v q n m ∙ sym (p.of_v q n m))
    (λ q r nq mq nr mr n. c.edges q r n
    ∙ ap₂ xor
    (b.edges q r n ∙ ap₂ xor (a.edges q r n) (ap₂ (λ x y. x && y) (i_v q mq) (i_v r mr)))
    (ap₂ (λ x y. x && y) (j_u q nq mq) (j_u r nr mr))
    ∙ three_toggles (joined g.edges q r) (joined g.edges u q) (joined g.edges v q) (joined g.edges u r) (joined g.edges v r)
    ∙ sym (p.between q r nq mq nr mr n)))
  where
    wi : WellFormed i
    wi = local_complement_kept g u i w a

    wj : WellFormed j
    wj = local_complement_kept i v j wi b

    apart : u ≢ v
    apart e = true≢false (sym p.adjacent ∙ ap (joined g.edges u) (sym e) ∙ no_loop g u w)

    i_uv : joined i.edges u v ≡ true
    i_uv = complement_near g u i w a v ∙ p.adjacent

    i_v : (q : ℕ) → q ≢ v → joined i.edges v q ≡ xor (joined g.edges v q) (joined g.edges u q)
    i_v q m = a.edges v q (λ e. m (sym e)) ∙ ap (λ x. xor (joined g.edges v q) (x && joined g.edges u q)) p.adjacent

    j_uv : joined j.edges u v ≡ true
    j_uv = joined_comm j.edges u v ∙ complement_near i v j wi b u ∙ joined_comm i.edges v u ∙ i_uv

    j_u : (q : ℕ) → q ≢ u → q ≢ v → joined j.edges u q ≡ joined g.edges v q
    j_u q n m =
        b.edges u q (λ e. n (sym e))
        ∙ ap₂ xor (complement_near g u i w a q) (ap₂ (λ x y. x && y) (joined_comm i.edges v u ∙ i_uv) (i_v q m))
        ∙ added_twice (joined g.edges u q) (joined g.edges v q)

    k_u : (q : ℕ) → joined k.edges u q ≡ joined j.edges u q
    k_u q = complement_near j u k wj c q

    k_v : (q : ℕ) → q ≢ u → q ≢ v → joined k.edges v q ≡ joined g.edges u q
    k_v q n m =
        c.edges v q (λ e. m (sym e))
        ∙ ap₂ xor (complement_near i v j wi b q ∙ i_v q m) (ap₂ (λ x y. x && y) j_uv (j_u q n m))
        ∙ taken_away (joined g.edges v q) (joined g.edges u q)
      where
        taken_away : (x y : Bool) → xor (xor x y) x ≡ y
        taken_away x y = simp expand_bits

undone : (f g : ℕ → Kind → Kind) (vs : List Vertex) → ((p : ℕ) (k : Kind) → k.phase < turn → g p (f p k) ≡ k) → all_below_a_turn vs ≡ true → with_kinds g (with_kinds f vs) ≡ vs
undone f g [] back h = refl
undone f g (v ∷ vs) back h =
    ap₂ (λ k ws. record { id = v.id; kind = k } ∷ ws) (back v.id v.kind (ltb-true v.kind.phase turn (and-left _ _ h))) (undone f g vs back (and-right _ _ h))

crossed : (r m n : Bool) → xor (xor r (xor m n)) (xor n m) ≡ r
crossed true true true = refl
crossed true true false = refl
crossed true false true = refl
crossed true false false = refl
crossed false true true = refl
crossed false true false = refl
crossed false false true = refl
crossed false false false = refl

twice_crossed : (r x y z t : Bool) → xor (xor r (xor (x && t) (y && z))) (xor (y && z) (x && t)) ≡ r
twice_crossed r x y z t = crossed r (x && t) (y && z)

pub pivot_twice : (g : Graph) (u v : ℕ) (h k : Graph) → WellFormed g → IsPivot g u v h → IsPivot h u v k → k ≡ g
pivot_twice g u v h k w c d = same_graph k g vertices_back edges_back (KeepsEnds-then g h k c.frame d.frame)
  where
    kind_back : (p : ℕ) (kind : Kind) → kind.phase < turn → pivot_kind u v (joined h.edges u) (joined h.edges v) p (pivot_kind u v (joined g.edges u) (joined g.edges v) p kind) ≡ kind
    kind_back p kind lt =
        by_equal p u (λ t e. rw t (pivoted_in-twice kind.plane kind.phase lt))
        (λ f i. by_equal p v (λ t e. rw (f, t) (pivoted_in-twice kind.plane kind.phase lt))
        (λ f' j. rw (f, f') (by_test (joined g.edges u p && joined g.edges v p)
        (λ t. rw (ap₂ (λ x y. x && y) (c.of_u p i j) (c.of_v p i j) ∙ and_comm (joined g.edges v p) (joined g.edges u p) ∙ t, t) (half_turned_in-twice kind.plane kind.phase lt))
        (λ t. rw (ap₂ (λ x y. x && y) (c.of_u p i j) (c.of_v p i j) ∙ and_comm (joined g.edges v p) (joined g.edges u p) ∙ t, t) refl))))

    vertices_back : k.vertices ≡ g.vertices
    vertices_back =
        d.vertices ∙ ap (with_kinds (pivot_kind u v (joined h.edges u) (joined h.edges v))) c.vertices
        ∙ undone (pivot_kind u v (joined g.edges u) (joined g.edges v)) (pivot_kind u v (joined h.edges u) (joined h.edges v)) g.vertices kind_back w.phases_below_a_turn

    at_u : (q : ℕ) → q ≢ u → joined k.edges u q ≡ joined g.edges u q
    at_u q n = by_equal q v (λ t e. rw e (d.still_adjacent ∙ sym c.adjacent)) (λ f m. d.of_u q n m ∙ c.of_v q n m)

    at_v : (q : ℕ) → q ≢ v → joined k.edges v q ≡ joined g.edges v q
    at_v q n =
        by_equal q u (λ t e. rw e (joined_comm k.edges v u ∙ d.still_adjacent ∙ sym (joined_comm g.edges v u ∙ c.adjacent))) (λ f m. d.of_v q m n ∙ c.of_u q m n)

    joined_back : (p q : ℕ) → p ≢ q → joined k.edges p q ≡ joined g.edges p q
    joined_back p q n =
        by_equal p u (λ t e. rw e (at_u q (λ e'. n (e ∙ sym e'))))
        (λ f i. by_equal p v (λ t e. rw e (at_v q (λ e'. n (e ∙ sym e'))))
        (λ f' j. by_equal q u (λ t e. rw e (joined_comm k.edges p u ∙ at_u p i ∙ joined_comm g.edges u p))
        (λ g' l. by_equal q v (λ t e. rw e (joined_comm k.edges p v ∙ at_v p j ∙ joined_comm g.edges v p))
        (λ h' m. d.between p q i j l m n
        ∙ ap₂ xor (c.between p q i j l m n)
        (ap₂ xor (ap₂ (λ x y. x && y) (c.of_u p i j) (c.of_v q l m)) (ap₂ (λ x y. x && y) (c.of_v p i j) (c.of_u q l m)))
        ∙ twice_crossed (joined g.edges p q) (joined g.edges u p) (joined g.edges v p) (joined g.edges u q) (joined g.edges v q)))))

    edges_back : k.edges ≡ g.edges
    edges_back = edges_ext k.edges g.edges d.frame.ordered.lower_first w.edges.lower_first d.frame.ordered.rising w.edges.rising joined_back
