-- Gadgets that are dropped or fused: the form of the graph, the sum, the counts, and the program.
use Rattle.std.proofs.Common.{◌≡◌, ◌≢◌, refl, sym, ◌∙◌, ap, subst, ℕ, Bool, true, false, cond, ◌&&◌, eqb, List, [], ◌∷◌, true≢false, ne_eqb, eq-eqb, arith, ap₂, ◌+◌, not, filter}
use Rattle.std.specs.List.{list_all}
use Rattle.std.proofs.lemmas.Bool.{eqb-false}
use Rattle.zx_model.specs.Constants.{two}
use Rattle.zx_model.specs.Number.{mul, one, Number, sign}
use Rattle.zx_model.specs.Phase.{sum_of_phases}
use Rattle.zx_model.specs.Bits.{member, xor, one_if}
use Rattle.zx_model.specs.Sums.{sum_over}
use Rattle.zx_model.proofs.Ring.{mul_comm, one-mul, mul_assoc, sorted}
use Rattle.zx_model.proofs.Powers.{root_power-sum_of_phases}
use Rattle.zx_model.proofs.SumLemmas.{sum_over_same, sum_over_scaled}
use Rattle.zx_calculus.specs.Gadgets.{fuse_kind, IsDropLone, IsFuseInto, IsFuseTwin, is_empty, is_one_XY, first_of_list}
use Rattle.zx_calculus.specs.Graph.{WellFormed, without, is_XY, Graph, phase_of, YZ, Kind, kind_of, ids, Vertex, joined, with_kinds, Plane, XY, plane_of, is_interior, IsVertex, neighbours, is_YZ}
use Rattle.zx_calculus.specs.Edits.{KeepsEnds}
use Rattle.zx_calculus.specs.Turns.{with_phase_added, in_plane}
use Rattle.zx_calculus.specs.Sum.{spider, vertex_product, graph_sum, factor_in, factor}
use Rattle.zx_calculus.specs.Parity.{masked}
use Rattle.zx_calculus.specs.Internal.Pairs.{quad}
use Rattle.zx_calculus.specs.Counts.{even_interior, not_XY, is_even_at, odd_phases, is_odd_at, is_even_interior, is_odd_fused, is_even_fused}
use Rattle.zx_calculus.specs.Steps.{DropLone, FuseInto, FuseTwin, allowed, after}
use Rattle.zx_calculus.proofs.Kept.{Below, sum_below, cond_below, kept_removal, KeepsXY, cond_XY, both}
use Rattle.zx_calculus.proofs.Splitting.{interior_of, member-without, distinct_without, sum_without, distinct, Distinct-without, plane_XY, plane_YZ, all_at}
use Rattle.zx_calculus.proofs.Vertices.{with_kinds-identity, with_kinds-unchanged, ids-with_kinds, at_front-with_kinds, kind_of-without}
use Rattle.zx_calculus.proofs.Turning.{gadget}
use Rattle.zx_calculus.proofs.Forms.{transform, vertex_product_front, ids-without, Ignores, sum_out, form_front, at_ends, at_front, masked-labelled, value, at_ends-ignores, form}
use Rattle.zx_calculus.proofs.Removals.{removal_sum, Removal, removal_after}
use Rattle.zx_calculus.proofs.Parity.{masked-false, masked_same}
use Rattle.zx_calculus.proofs.Ids.{Distinct, apart_of_member, eqb-self, member-removed_other, removed, masked_front, by_equal, or-right, or-left, by_test, and-right, not-true, and-left, eqb_comm}
use Rattle.zx_calculus.proofs.Edges.{masked-pick, joined_comm}
use Rattle.zx_calculus.proofs.Counting.{YZ_apart, even_kept, gone_interior, plane_test, odd_test, even_test, left_one}
use Rattle.zx_calculus.proofs.CountLemmas.{count_front, count, member-without_other, count_apart, count-with_kinds, Test}
use Rattle.zx_calculus.proofs.Results.{filter_same}
use Rattle.zx_calculus.proofs.Booleans.{xor-same, or-false, xor_comm, and_comm}
use Rattle.zx_calculus.proofs.Programs.{absent_right, rising_without, rising_plain, neighbour, removal_edges}
use Rattle.zx_calculus.proofs.EdgeLists.{OrderedEdges-edges_of}

pub fuse_kind_below : (v j : ℕ) → Below (fuse_kind v j)
fuse_kind_below v j p k h = cond_below (eqb p v) _ _ (sum_below k.phase j) h

pub drop_lone_kept : (g : Graph) (u : ℕ) (h : Graph) → WellFormed g → IsDropLone g u h → WellFormed h
drop_lone_kept g u h w c =
    kept_removal g u (λ p k. k) h w (interior_of g u w (ap is_XY c.plane)) (λ p k t. t) (λ p k t. t) (c.vertices ∙ sym (with_kinds-identity (without u g.vertices))) c.frame

pub fuse_XY : (v j : ℕ) (p : ℕ) → KeepsXY (fuse_kind v j) p
fuse_XY v j p k t = cond_XY (eqb p v) (with_phase_added j k) k t t

pub fuse_into_kept : (g : Graph) (u : ℕ) (h : Graph) → WellFormed g → IsFuseInto g u h → WellFormed h
fuse_into_kept g u h w c =
    kept_removal g u (fuse_kind c.into (phase_of g u)) h w (interior_of g u w (ap is_XY c.plane)) (fuse_kind_below c.into (phase_of g u)) (fuse_XY c.into (phase_of g u)) c.vertices c.frame

pub fuse_twin_kept : (g : Graph) (u v : ℕ) (h : Graph) → WellFormed g → IsFuseTwin g u v h → WellFormed h
fuse_twin_kept g u v h w c =
    kept_removal g v (fuse_kind u (phase_of g v)) h w (interior_of g v w (ap is_XY c.plane_too)) (fuse_kind_below u (phase_of g v)) (fuse_XY u (phase_of g v)) c.vertices c.frame

pub gadget_at : (kind : Kind) (m : Bool) → kind.plane ≡ YZ → transform kind m ≡ mul two (spider kind.phase m)
gadget_at kind m e = ap (λ p. transform (in_plane p kind.phase) m) e ∙ gadget kind.phase m

pub drop_lone_sum : (g : Graph) (u : ℕ) (h : Graph) (x y : List Bool) → WellFormed g → WellFormed h → IsDropLone g u h → mul one (graph_sum g x y) ≡ mul two (graph_sum h x y)
drop_lone_sum g u h x y wg wh c =
    removal_sum g u (λ p k. k) h wg wh
    (record { there = c.there; interior = interior_of g u wg (ap is_XY c.plane); vertices = c.vertices ∙ sym (unchanged g.vertices); edges = c.edges; frame = c.frame })
    two x y
    (λ label. ap₂ (λ t vs. mul t (vertex_product vs label))
    (ap (transform (kind_of g.vertices u)) (masked_same (joined g.edges u) (λ p. false) (ids (without u g.vertices)) label (λ p t. c.lone p) ∙ masked-false (ids (without u g.vertices)) label)
    ∙ gadget_at (kind_of g.vertices u) false c.plane ∙ mul_comm two one ∙ one-mul two)
    (sym (unchanged g.vertices)))
  where
    unchanged : (vs : List Vertex) → with_kinds (λ p k. k) (without u vs) ≡ without u vs
    unchanged vs = with_kinds-unchanged (λ p k. k) (without u vs) (λ p k t. refl)

pub fused_factor : (plane : Plane) (j k : ℕ) (b : Bool) → plane ≡ XY → factor_in plane (sum_of_phases j k) b ≡ mul (spider k b) (factor_in plane j b)
fused_factor plane j k b e = rw e (at b)
  where
    at : (b : Bool) → spider (sum_of_phases j k) b ≡ mul (spider k b) (spider j b)
    at true = root_power-sum_of_phases j k ∙ mul_comm _ _
    at false = sym (one-mul one)

-- one vertex's phase grows
pub fused_product : (v k : ℕ) (ws : List Vertex) (label : ℕ → Bool) → Distinct (ids ws) → member v (ids ws) ≡ true → (kind_of ws v).plane ≡ XY →
    vertex_product (with_kinds (fuse_kind v k) ws) label ≡ mul (spider k (label v)) (vertex_product ws label)
fused_product v k ws label d there plane =
    vertex_product_front v (with_kinds (fuse_kind v k) ws) label (rw (ids-with_kinds (fuse_kind v k) ws) d) (ap (member v) (ids-with_kinds (fuse_kind v k) ws) ∙ there)
    ∙ ap (λ vs. vertex_product vs label) (at_front-with_kinds (fuse_kind v k) v ws there)
    ∙ ap₂ (λ kind vs. mul (factor kind (label v)) (vertex_product vs label))
    (ap (λ b. cond b (with_phase_added k (kind_of ws v)) (kind_of ws v)) (eqb-self v))
    (with_kinds-unchanged (fuse_kind v k) (without v ws)
    (λ p kind t. ap (λ b. cond b (with_phase_added k kind) kind) (ne_eqb p v (apart_of_member p v (ids (without v ws)) t (member-without v ws)))))
    ∙ ap (λ f. mul f (vertex_product (without v ws) label)) (fused_factor (kind_of ws v).plane (kind_of ws v).phase k (label v) plane)
    ∙ mul_assoc _ _ _
    ∙ ap (mul (spider k (label v))) (sym (vertex_product_front v ws label d there))

pub fuse_into_sum : (g : Graph) (u : ℕ) (h : Graph) (x y : List Bool) → WellFormed g → WellFormed h → IsFuseInto g u h → mul one (graph_sum g x y) ≡ mul two (graph_sum h x y)
fuse_into_sum g u h x y wg wh c =
    removal_sum g u (fuse_kind c.into (phase_of g u)) h wg wh
    (record { there = c.there; interior = interior_of g u wg (ap is_XY c.plane); vertices = c.vertices; edges = c.edges; frame = c.frame })
    two x y
    (λ label. ap (λ t. mul t (vertex_product (without u g.vertices) label))
    (ap (transform (kind_of g.vertices u))
    (masked_same (joined g.edges u) (λ p. eqb p c.into) (ids (without u g.vertices)) label (λ p t. c.only_neighbour p)
    ∙ masked-pick c.into (ids (without u g.vertices)) label (distinct_without g u wg) into_there)
    ∙ gadget_at (kind_of g.vertices u) (label c.into) c.plane)
    ∙ mul_assoc _ _ _
    ∙ ap (mul two) (sym (fused_product c.into (phase_of g u) (without u g.vertices) label (distinct_without g u wg) into_there (ap (λ k. k.plane) (kind_of-without c.into u g.vertices into_apart) ∙ c.into_plane))))
  where
    into_apart : c.into ≢ u
    into_apart e = XY≢YZ (sym c.into_plane ∙ ap (plane_of g) e ∙ c.plane)
      where
        XY≢YZ : XY ≡ YZ → ⊥
        XY≢YZ q = true≢false (ap is_XY q)

    into_there : member c.into (ids (without u g.vertices)) ≡ true
    into_there = ap (member c.into) (ids-without u g.vertices) ∙ member-removed_other c.into u (ids g.vertices) into_apart ∙ c.into_there

move_in : (t s p q e : Number) → mul (mul t s) (mul p (mul q e)) ≡ mul p (mul q (mul t (mul s e)))
move_in t s p q e = simp sorted

join_spiders : (t s j p q e : Number) → mul one (mul (mul t j) (mul p (mul q (mul t (mul s e))))) ≡ mul t (mul (mul t (mul s j)) (mul p (mul q e)))
join_spiders t s j p q e = simp sorted

module _ (g : Graph) (u v : ℕ) (h : Graph) (wg : WellFormed g) (wh : WellFormed h) (c : IsFuseTwin g u v h) (x y : List Bool) where
  abbrev ws : List Vertex
  ws = without v g.vertices

  abbrev others : List Vertex
  others = without u ws

  abbrev a : ℕ → ℕ → Bool
  a = joined g.edges

  abbrev rest : (ℕ → Bool) → Number
  rest = at_ends g.inputs g.outputs x y

  abbrev parity : (ℕ → Bool) → Bool
  parity label = masked (a u) (ids others) label

  abbrev kind : Kind
  kind = kind_of g.vertices u

  abbrev gained : ℕ
  gained = phase_of g v

  -- v as a factor of the rest
  abbrev with_v : (ℕ → Bool) → Number
  with_v label = mul two (mul (spider gained (parity label)) (rest label))

  u_there : member u (ids ws) ≡ true
  u_there = ap (member u) (ids-without v g.vertices) ∙ member-removed_other u v (ids g.vertices) c.different ∙ c.there

  u_interior : Ignores rest u
  u_interior = at_ends-ignores g.inputs g.outputs x y u (interior_of g u wg (ap is_XY c.plane)).no_input (interior_of g u wg (ap is_XY c.plane)).no_output

  ignores_u : Ignores with_v u
  ignores_u label b =
      ap₂ (λ m e. mul two (mul (spider gained m) e)) (masked-labelled (a u) u (ids others) label b (member-without u ws)) (u_interior label b)

  parity_of_v : (label : ℕ → Bool) → masked (a v) (ids ws) label ≡ parity label
  parity_of_v label =
      masked_front (a v) u (ids ws) label (distinct_without g v wg) u_there
      ∙ ap (λ b. xor (b && label u) (masked (a v) (removed u (ids ws)) label)) (joined_comm g.edges v u ∙ c.not_adjacent)
      ∙ ap (λ is. masked (a v) is label) (sym (ids-without u ws))
      ∙ masked_same (a v) (a u) (ids others) label (λ p t. sym (c.equal_neighbours p))

  sum_before : graph_sum g x y ≡ sum_over (ids others) (λ label. mul (transform kind (parity label)) (value a with_v others label))
  sum_before =
      sum_without g v x y wg c.there_too (interior_of g v wg (ap is_XY c.plane_too))
      ∙ sum_over_same (ids ws) _ _
      (λ label. ap (λ t. mul t (value a rest ws label)) (ap (transform (kind_of g.vertices v)) (parity_of_v label) ∙ gadget_at (kind_of g.vertices v) (parity label) c.plane_too) ∙ move_in _ _ _ _ _)
      ∙ form_front a with_v u ws (joined_comm g.edges) (distinct_without g v wg) u_there
      ∙ sum_out a with_v (kind_of ws u) u others ignores_u (member-without u ws)
      ∙ ap (λ k. sum_over (ids others) (λ label. mul (transform k (parity label)) (value a with_v others label))) (kind_of-without u v g.vertices c.different)

  abbrev fused : List Vertex
  fused = with_kinds (fuse_kind u gained) ws

  front_after : at_front u fused ≡ record { id = u; kind = with_phase_added gained kind } ∷ others
  front_after =
      at_front-with_kinds (fuse_kind u gained) u ws u_there
      ∙ ap₂ (λ k vs. record { id = u; kind = k } ∷ vs)
      (ap (λ b. cond b (with_phase_added gained (kind_of ws u)) (kind_of ws u)) (eqb-self u) ∙ ap (with_phase_added gained) (kind_of-without u v g.vertices c.different))
      (with_kinds-unchanged (fuse_kind u gained) others (λ p k t. ap (λ b. cond b (with_phase_added gained k) k) (ne_eqb p u (apart_of_member p u (ids others) t (member-without u ws)))))

  is_removal : Removal g v (fuse_kind u gained) h
  is_removal = record { there = c.there_too; interior = interior_of g v wg (ap is_XY c.plane_too); vertices = c.vertices; edges = c.edges; frame = c.frame }

  sum_after : graph_sum h x y ≡ sum_over (ids others) (λ label. mul (transform (with_phase_added gained kind) (parity label)) (value a rest others label))
  sum_after =
      removal_after g v (fuse_kind u gained) h wg wh is_removal x y
      ∙ ap (λ is. sum_over is (λ label. mul (vertex_product fused label) (mul (sign (quad a is label)) (rest label)))) (sym (ids-with_kinds (fuse_kind u gained) ws))
      ∙ form_front a rest u fused (joined_comm g.edges) (rw (ids-with_kinds (fuse_kind u gained) ws) (distinct_without g v wg)) (ap (member u) (ids-with_kinds (fuse_kind u gained) ws) ∙ u_there)
      ∙ ap (form a rest) front_after
      ∙ sum_out a rest (with_phase_added gained kind) u others u_interior (member-without u ws)

  pub fuse_twin_sum : mul one (graph_sum g x y) ≡ mul two (graph_sum h x y)
  fuse_twin_sum =
      ap (mul one) sum_before
      ∙ sum_over_scaled one two (ids others) _ _
      (λ label. ap (λ t. mul one (mul t (value a with_v others label))) (gadget_at kind (parity label) c.plane)
      ∙ join_spiders two (spider gained (parity label)) (spider kind.phase (parity label)) _ _ _
      ∙ ap (λ s. mul two (mul (mul two s) (value a rest others label))) (sym (fused_factor XY kind.phase gained (parity label) refl))
      ∙ ap (λ t. mul two (mul t (value a rest others label))) (sym (gadget_at (with_phase_added gained kind) (parity label) c.plane)))
      ∙ ap (mul two) (sym sum_after)

module _ (g : Graph) (u : ℕ) (h : Graph) (w : WellFormed g) (c : IsDropLone g u h) where
  pub odd-drop : odd_phases h + one_if (is_odd_at g u) ≡ odd_phases g
  odd-drop = left_one _ _ _ _ _ (ap (count odd_test) c.vertices) refl (count_front odd_test u g.vertices (distinct g w) c.there)

  pub even-drop : even_interior h + one_if (is_even_at g u) ≡ even_interior g
  even-drop =
      left_one _ _ _ _ _ (even_kept g h c.frame) (ap (count (even_test g)) c.vertices)
      (count_front (even_test g) u g.vertices (distinct g w) c.there
      ∙ ap (λ a. one_if (a && is_even_at g u) + count (even_test g) (without u g.vertices)) (gone_interior g u w (YZ_apart (plane_of g u) c.plane)))

  pub planes-drop : not_XY h + 1 ≡ not_XY g
  planes-drop =
      left_one _ _ _ _ _ (ap (count plane_test) c.vertices) refl
      (count_front plane_test u g.vertices (distinct g w) c.there
      ∙ ap (λ p. one_if (not (is_XY p)) + count plane_test (without u g.vertices)) c.plane)

fused_count : (t : Test) (k : ℕ) (u v : ℕ) (vs : List Vertex) → Distinct (ids vs) → member u (ids vs) ≡ true → member v (ids vs) ≡ true → v ≢ u
    → count t (with_kinds (fuse_kind v k) (without u vs)) + one_if (t u (kind_of vs u)) + one_if (t v (kind_of vs v))
    ≡ count t vs + one_if (t v (with_phase_added k (kind_of vs v)))
fused_count t k u v vs d u_there v_there differ =
    balanced _ _ _ _ _ _ _ (count-with_kinds t (fuse_kind v k) ws)
    (subst (λ l. count (λ p k'. t p (fuse_kind v k p k')) ws + one_if (t v l) ≡ count t ws + one_if (t v (with_phase_added k l))) (kind_of-without v u vs differ)
    (count_apart (λ p k'. t p (fuse_kind v k p k')) t v ws (Distinct-without u vs d) (member-without_other v u vs differ ∙ v_there)
    (λ p m n. ap (λ b. t p (cond b (with_phase_added k (kind_of ws p)) (kind_of ws p))) (ne_eqb p v n))
    ∙ ap (λ b. count t ws + one_if (t v (cond b (with_phase_added k (kind_of ws v)) (kind_of ws v)))) (eqb-self v)))
    (count_front t u vs d u_there)
  where
    ws : List Vertex
    ws = without u vs

    balanced : (a a' b c x y z : ℕ) → a ≡ a' → a' + x ≡ b + y → c ≡ z + b → a + z + x ≡ c + y
    balanced a a' b c x y z e f g = omega arith

module _ (g h : Graph) (u v : ℕ) (w : WellFormed g) (there : IsVertex g u) (gains : IsVertex g v) (differ : v ≢ u) (plane : plane_of g u ≡ YZ)
    (vertices : h.vertices ≡ with_kinds (fuse_kind v (phase_of g u)) (without u g.vertices)) where
  odd_fused : odd_phases h + one_if (is_odd_at g u) + one_if (is_odd_at g v) ≡ odd_phases g + one_if (is_odd_fused g u v)
  odd_fused =
      ap (λ vs. count odd_test vs + one_if (is_odd_at g u) + one_if (is_odd_at g v)) vertices
      ∙ fused_count odd_test (phase_of g u) u v g.vertices (distinct g w) there gains differ

  even_fused : KeepsEnds g h
      → even_interior h + one_if (is_even_at g u) + one_if (is_even_interior g v) ≡ even_interior g + one_if (is_interior g v && is_even_fused g u v)
  even_fused frame =
      ap₂ (λ n b. n + one_if (b && is_even_at g u) + one_if (is_interior g v && is_even_at g v)) (even_kept g h frame) (sym (gone_interior g u w (YZ_apart (plane_of g u) plane)))
      ∙ ap (λ vs. count (even_test g) vs + one_if (even_test g u (kind_of g.vertices u)) + one_if (even_test g v (kind_of g.vertices v))) vertices
      ∙ fused_count (even_test g) (phase_of g u) u v g.vertices (distinct g w) there gains differ

  planes_fused : not_XY h + 1 ≡ not_XY g
  planes_fused =
      balanced (not_XY h) (not_XY g) (one_if (plane_test u (kind_of g.vertices u))) (one_if (plane_test v (kind_of g.vertices v))) (ap (λ vs. count plane_test vs + one_if (plane_test u (kind_of g.vertices u)) + one_if (plane_test v (kind_of g.vertices v))) vertices
      ∙ fused_count plane_test (phase_of g u) u v g.vertices (distinct g w) there gains differ)
      (ap (λ p. one_if (not (is_XY p))) plane)
    where
      balanced : (a b x y : ℕ) → a + x + y ≡ b + y → x ≡ 1 → a + 1 ≡ b
      balanced a b x y e f = omega arith

module _ (g : Graph) (u : ℕ) (h : Graph) (w : WellFormed g) (c : IsFuseInto g u h) where
  into_differs : c.into ≢ u
  into_differs e = YZ_apart (plane_of g u) c.plane (ap (plane_of g) (sym e) ∙ c.into_plane)

  pub odd-fuse_into : odd_phases h + one_if (is_odd_at g u) + one_if (is_odd_at g c.into) ≡ odd_phases g + one_if (is_odd_fused g u c.into)
  odd-fuse_into = odd_fused g h u c.into w c.there c.into_there into_differs c.plane c.vertices

  pub even-fuse_into : even_interior h + one_if (is_even_at g u) + one_if (is_even_interior g c.into)
      ≡ even_interior g + one_if (is_interior g c.into && is_even_fused g u c.into)
  even-fuse_into = even_fused g h u c.into w c.there c.into_there into_differs c.plane c.vertices c.frame

  pub planes-fuse_into : not_XY h + 1 ≡ not_XY g
  planes-fuse_into = planes_fused g h u c.into w c.there c.into_there into_differs c.plane c.vertices

module _ (g : Graph) (u v : ℕ) (h : Graph) (w : WellFormed g) (c : IsFuseTwin g u v h) where
  pub odd-fuse_twin : odd_phases h + one_if (is_odd_at g v) + one_if (is_odd_at g u) ≡ odd_phases g + one_if (is_odd_fused g v u)
  odd-fuse_twin = odd_fused g h v u w c.there_too c.there c.different c.plane_too c.vertices

  pub even-fuse_twin : even_interior h + one_if (is_even_at g v) + one_if (is_even_at g u) ≡ even_interior g + one_if (is_even_fused g v u)
  even-fuse_twin =
      subst (λ b. even_interior h + one_if (is_even_at g v) + one_if (b && is_even_at g u) ≡ even_interior g + one_if (b && is_even_fused g v u))
      (gone_interior g u w (YZ_apart (plane_of g u) c.plane))
      (even_fused g h v u w c.there_too c.there c.different c.plane_too c.vertices c.frame)

  pub planes-fuse_twin : not_XY h + 1 ≡ not_XY g
  planes-fuse_twin = planes_fused g h v u w c.there_too c.there c.different c.plane_too c.vertices

pub filter-none : (p : ℕ → Bool) (xs : List ℕ) → ((x : ℕ) → p x ≡ false) → filter p xs ≡ []
filter-none p [] h = refl
filter-none p (x ∷ xs) h = rw (h x) (filter-none p xs h)

filter-absent : (v : ℕ) (xs : List ℕ) → member v xs ≡ false → filter (λ p. eqb p v) xs ≡ []
filter-absent v [] h = refl
filter-absent v (x ∷ xs) h =
    let apart : eqb x v ≡ false = by_equal v x (λ t e. absurd (true≢false (sym t ∙ or-left _ _ h))) (λ f n. ne_eqb x v (λ e. n (sym e))) in
    rw apart (filter-absent v xs (or-right _ _ h))

filter-one : (v : ℕ) (xs : List ℕ) → Distinct xs → member v xs ≡ true → filter (λ p. eqb p v) xs ≡ v ∷ []
filter-one v [] d h = absurd (true≢false (sym h))
filter-one v (x ∷ xs) d h =
    by_equal v x
    (λ t e. let same : eqb x v ≡ true = eq-eqb x v (sym e) in rw same (ap₂ (λ y ys. y ∷ ys) (sym e) (filter-absent v xs (ap (λ w. member w xs) e ∙ d.0))))
    (λ f n. let there : member v xs ≡ true = rw f at h in
    let apart : eqb x v ≡ false = ne_eqb x v (λ e. n (sym e)) in rw apart (filter-one v xs d.1 there))

pub neighbours_into : (g : Graph) (u : ℕ) (h : Graph) → WellFormed g → (c : IsFuseInto g u h) → neighbours g u ≡ c.into ∷ []
neighbours_into g u h w c = filter_same (joined g.edges u) (λ p. eqb p c.into) (ids g.vertices) c.only_neighbour ∙ filter-one c.into (ids g.vertices) (distinct g w) c.into_there

pub equal_everywhere : (p q : ℕ → Bool) (xs : List ℕ) → ((x : ℕ) → p x ≡ q x) → list_all (λ x. not (xor (p x) (q x))) xs ≡ true
equal_everywhere p q [] h = refl
equal_everywhere p q (x ∷ xs) h = both _ _ (ap (λ b. not (xor (p x) b)) (sym (h x)) ∙ ap not (xor-same (p x))) (equal_everywhere p q xs h)

module _ (g : Graph) (w : WellFormed g) where
  empty_from : (xs : List ℕ) → is_empty xs ≡ true → xs ≡ []
  empty_from [] h = refl
  empty_from (x ∷ xs) h = absurd (true≢false (sym h))

  pub after_drop : (u : ℕ) → allowed g (DropLone u) ≡ true → IsDropLone g u (after (DropLone u) g)
  after_drop u h =
      record {
        there = and-left _ _ (and-left _ _ h);
        plane = plane_YZ (plane_of g u) (and-right _ _ (and-left _ _ h));
        lone = λ p. neighbour g w u p ∙ ap (member p) (empty_from (neighbours g u) (and-right _ _ h));
        vertices = refl;
        edges = removal_edges g w u _ (ids-without u g.vertices) (rising_plain g w u);
        frame = record { ordered = OrderedEdges-edges_of _ _ (rising_plain g w u); inputs = refl; outputs = refl };
      }

  one_from : (xs : List ℕ) → is_one_XY g xs ≡ true → (xs ≡ first_of_list xs ∷ []) × (is_XY (plane_of g (first_of_list xs)) ≡ true)
  one_from [] h = absurd (true≢false (sym h))
  one_from (x ∷ []) h = (refl, h)
  one_from (x ∷ (y ∷ ys)) h = absurd (true≢false (sym h))

  only : (u : ℕ) → is_one_XY g (neighbours g u) ≡ true → (p : ℕ) → joined g.edges u p ≡ eqb p (first_of_list (neighbours g u))
  only u h p = neighbour g w u p ∙ ap (member p) (one_from (neighbours g u) h).0 ∙ or-false (eqb p (first_of_list (neighbours g u)))

  pub after_fuse_into : (u : ℕ) → allowed g (FuseInto u) ≡ true → IsFuseInto g u (after (FuseInto u) g)
  after_fuse_into u h =
      record {
        into = first_of_list (neighbours g u);
        there = and-left _ _ (and-left _ _ h);
        plane = plane_YZ (plane_of g u) (and-right _ _ (and-left _ _ h));
        into_there = by_test (member (first_of_list (neighbours g u)) (ids g.vertices)) (λ t. t)
            (λ f. absurd (true≢false (sym (only u (and-right _ _ h) (first_of_list (neighbours g u)) ∙ eqb-self (first_of_list (neighbours g u))) ∙ absent_right g w u (first_of_list (neighbours g u)) f)));
        into_plane = plane_XY (plane_of g (first_of_list (neighbours g u))) (one_from (neighbours g u) (and-right _ _ h)).1;
        only_neighbour = only u (and-right _ _ h);
        vertices = refl;
        edges = removal_edges g w u _ (ids-with_kinds (fuse_kind (first_of_list (neighbours g u)) (phase_of g u)) (without u g.vertices) ∙ ids-without u g.vertices) (rising_without g w (fuse_kind (first_of_list (neighbours g u)) (phase_of g u)) u);
        frame = record { ordered = OrderedEdges-edges_of _ _ (rising_without g w (fuse_kind (first_of_list (neighbours g u)) (phase_of g u)) u); inputs = refl; outputs = refl };
      }

  equal_at : (p q : ℕ → Bool) (xs : List ℕ) (x : ℕ) → list_all (λ x. not (xor (p x) (q x))) xs ≡ true → member x xs ≡ true → p x ≡ q x
  equal_at p q xs x h t = same_bits (p x) (q x) (not-true (xor (p x) (q x)) (all_at (λ x. not (xor (p x) (q x))) xs x h t))
    where
      same_bits : (a b : Bool) → xor a b ≡ false → a ≡ b
      same_bits true true e = refl
      same_bits true false e = e
      same_bits false b e = sym e

  pub after_fuse_twin : (u v : ℕ) → allowed g (FuseTwin u v) ≡ true → IsFuseTwin g u v (after (FuseTwin u v) g)
  after_fuse_twin u v h =
      record {
        there = and-left _ _ (and-left _ _ (and-left _ _ h));
        there_too = and-right _ _ (and-left _ _ (and-left _ _ h));
        different = eqb-false u v (not-true (eqb u v) (and-left _ _ (and-right _ _ (and-left _ _ h))));
        plane = plane_YZ (plane_of g u) (and-left _ _ (and-right _ _ (and-right _ _ (and-left _ _ h))));
        plane_too = plane_YZ (plane_of g v) (and-right (is_YZ (plane_of g u)) (is_YZ (plane_of g v)) (and-right (not (eqb u v)) (is_YZ (plane_of g u) && is_YZ (plane_of g v))
            (and-right (member u (ids g.vertices) && member v (ids g.vertices)) (not (eqb u v) && (is_YZ (plane_of g u) && is_YZ (plane_of g v)))
            (and-left _ (not (joined g.edges u v) && list_all (λ p. not (xor (joined g.edges u p) (joined g.edges v p))) (ids g.vertices)) h))));
        not_adjacent = not-true (joined g.edges u v) (and-left _ _ (and-right _ _ h));
        equal_neighbours = λ p. by_test (member p (ids g.vertices))
            (equal_at (joined g.edges u) (joined g.edges v) (ids g.vertices) p (and-right _ _ (and-right _ _ h)))
            (λ f. absent_right g w u p f ∙ sym (absent_right g w v p f));
        vertices = refl;
        edges = removal_edges g w v _ (ids-with_kinds (fuse_kind u (phase_of g v)) (without v g.vertices) ∙ ids-without v g.vertices) (rising_without g w (fuse_kind u (phase_of g v)) v);
        frame = record { ordered = OrderedEdges-edges_of _ _ (rising_without g w (fuse_kind u (phase_of g v)) v); inputs = refl; outputs = refl };
      }

pub fuse_twin_allowed_comm : (g : Graph) (u v : ℕ) → allowed g (FuseTwin u v) ≡ allowed g (FuseTwin v u)
fuse_twin_allowed_comm g u v =
    ap₂ (λ a b. a && b)
    (ap₂ (λ a b. a && b) (and_comm (member u (ids g.vertices)) (member v (ids g.vertices)))
    (ap₂ (λ a b. not a && b) (eqb_comm u v) (and_comm (is_YZ (plane_of g u)) (is_YZ (plane_of g v)))))
    (ap₂ (λ a f. not a && list_all f (ids g.vertices)) (joined_comm g.edges u v)
    (λ i p. not (xor_comm (joined g.edges u p) (joined g.edges v p) i)))
