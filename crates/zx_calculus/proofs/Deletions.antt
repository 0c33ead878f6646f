-- The deletion of a vertex of half turns: the form of the graph, the sum, the counts, and the program.
use Rattle.std.proofs.Common.{◌≡◌, ◌≢◌, ◌⊎◌, inl, inr, refl, sym, ◌∙◌, ap, ℕ, Bool, true, false, cond, ◌&&◌, eqb, ltb, List, true≢false, arith, ap₂, ◌+◌, not}
use Rattle.std.specs.List.{list_all}
use Rattle.zx_model.specs.Phase.{half_turn, turn, IsHalfTurns, is_odd}
use Rattle.zx_model.specs.Constants.{two, i}
use Rattle.zx_model.specs.Number.{Number, sign, neg, add, one, mul}
use Rattle.zx_model.specs.Bits.{one_if}
use Rattle.zx_model.proofs.Ring.{expand, sorted}
use Rattle.zx_model.proofs.Powers.{root_power-zero, root_power-half_turn}
use Rattle.zx_model.proofs.Phases.{half_turns_from, half_turns_to}
use Rattle.zx_calculus.specs.Deletions.{delete_kind, IsDeletable, IsDelete, may_delete}
use Rattle.zx_calculus.specs.Turns.{half_turned, in_plane}
use Rattle.zx_calculus.specs.Graph.{phase_of, WellFormed, joined, Graph, plane_of, YZ, Plane, XY, XZ, ids, with_kinds, Vertex, without, kind_of, Kind, is_XY}
use Rattle.zx_calculus.specs.Sum.{vertex_product, graph_sum}
use Rattle.zx_calculus.proofs.Factors.{half_cost, product_of, delete_half_in, delete_right}
use Rattle.zx_calculus.specs.Parity.{masked}
use Rattle.zx_calculus.specs.Counts.{not_XY, odd_phases, even_interior}
use Rattle.zx_calculus.specs.Steps.{allowed, after, Delete}
use Rattle.zx_calculus.proofs.Kept.{both, Below, cond_below, half_below, cond_XY, half_XY, kept_removal}
use Rattle.zx_calculus.proofs.Splitting.{interior_of, off_XY, no_loop, distinct_without, distinct}
use Rattle.zx_calculus.proofs.Forms.{transform, ids-without}
use Rattle.zx_calculus.proofs.Removals.{Removal, ws, removal_sum}
use Rattle.zx_calculus.proofs.Vertices.{turn_near, with_kinds-unchanged, turned_product, product_of-without, list_all-without, ids-with_kinds}
use Rattle.zx_calculus.proofs.Turning.{picked_signs, half_factor_in}
use Rattle.zx_calculus.proofs.Counting.{half_odd, cond_odd, KeepsOdd, even_kept, gone_interior, even_test, left_one, cond_plane, odd_test, even_changed, phases_left, odd_changed, plane_test, half_plane}
use Rattle.zx_calculus.proofs.CountLemmas.{count-with_kinds, count, count_front, count_same}
use Rattle.zx_calculus.proofs.Ids.{not-true, and-right, and-left}
use Rattle.zx_calculus.proofs.Programs.{removal_edges, rising_without}
use Rattle.zx_calculus.proofs.EdgeLists.{OrderedEdges-edges_of}

delete_kind_below : (phase : ℕ) (near : ℕ → Bool) → Below (delete_kind phase near)
delete_kind_below phase near p k h = cond_below (eqb phase half_turn && near p) _ _ (half_below k.plane k.phase h) h

pub delete_kept : (g : Graph) (u : ℕ) (h : Graph) → WellFormed g → IsDelete g u h → WellFormed h
delete_kept g u h w c =
    kept_removal g u (delete_kind (phase_of g u) (joined g.edges u)) h w (interior_of g u w (off_XY (plane_of g u) c.deletable.plane)) (delete_kind_below (phase_of g u) (joined g.edges u))
    (λ p k t. cond_XY (eqb (phase_of g u) half_turn && joined g.edges u p) (half_turned k) k (half_XY k.plane k.phase t) t)
    c.vertices c.frame

-- the transform of the factor of a vertex that is deleted
deleted_zero : (plane : Plane) (m : Bool) → plane ≢ XY → transform (in_plane plane 0) m ≡ two
deleted_zero XY m n = absurd (n refl)
deleted_zero YZ m n = rw root_power-zero (flat m)
  where
    flat : (m : Bool) → add (add one (mul one one)) (mul (add one (mul (neg one) one)) (sign m)) ≡ two
    flat true = simp expand
    flat false = simp expand
deleted_zero XZ m n = rw root_power-zero (flat i m)
  where
    flat : (j : Number) (m : Bool) → add (mul (add one (mul one one)) one) (mul (mul (add one (mul (neg one) one)) j) (sign m)) ≡ two
    flat j true = simp expand
    flat j false = simp expand

deleted_half : (plane : Plane) (m : Bool) → plane ≢ XY → transform (in_plane plane half_turn) m ≡ mul (delete_half_in plane) (sign m)
deleted_half XY m n = absurd (n refl)
deleted_half YZ m n = rw root_power-half_turn (flat m)
  where
    flat : (m : Bool) → add (add one (mul one (neg one))) (mul (add one (mul (neg one) (neg one))) (sign m)) ≡ mul two (sign m)
    flat true = simp expand
    flat false = simp expand
deleted_half XZ m n = rw root_power-half_turn (flat i m)
  where
    flat : (j : Number) (m : Bool) → add (mul (add one (mul one (neg one))) one) (mul (mul (add one (mul (neg one) (neg one))) j) (sign m)) ≡ mul (mul two j) (sign m)
    flat j true = simp expand
    flat j false = simp expand

pub is_removal : (g : Graph) (u : ℕ) (h : Graph) → WellFormed g → (c : IsDelete g u h) → Removal g u (delete_kind (phase_of g u) (joined g.edges u)) h
is_removal g u h w c = record { there = c.deletable.there; interior = interior_of g u w (off_XY (plane_of g u) c.deletable.plane); vertices = c.vertices; edges = c.edges; frame = c.frame }

combine : (d s p c p' : Number) → mul c p' ≡ mul s p → mul (mul d s) p ≡ mul (mul d c) p'
combine d s p c p' e = one_way d s p ∙ ap (mul d) (sym e) ∙ back d c p'
  where
    one_way : (d s p : Number) → mul (mul d s) p ≡ mul d (mul s p)
    one_way d s p = simp sorted

    back : (d c p' : Number) → mul d (mul c p') ≡ mul (mul d c) p'
    back d c p' = simp sorted

deleted_at : (plane : Plane) (k : ℕ) (near : ℕ → Bool) (m : Bool) (all ws : List Vertex) (label : ℕ → Bool) → plane ≢ XY → (k ≡ 0) ⊎ (k ≡ half_turn) →
    product_of near half_cost ws ≡ product_of near half_cost all → masked near (ids ws) label ≡ m → list_all (λ v. ltb v.kind.phase turn) ws ≡ true →
    mul (transform (in_plane plane k) m) (vertex_product ws label)
    ≡ mul (cond (eqb k half_turn) (mul (delete_half_in plane) (product_of near half_cost all)) two) (vertex_product (with_kinds (delete_kind k near) ws) label)
deleted_at plane k near m all ws label n (inl e) costs parity below =
    rw e (ap₂ (λ t p. mul t p) (deleted_zero plane m n) (ap (λ vs. vertex_product vs label) (sym (with_kinds-unchanged (delete_kind 0 near) ws (λ p kind t. refl)))))
deleted_at plane k near m all ws label n (inr e) costs parity below =
    rw e
    (ap (λ t. mul t (vertex_product ws label)) (deleted_half plane m n)
    ∙ combine (delete_half_in plane) (sign m) (vertex_product ws label) (product_of near half_cost ws) (vertex_product (with_kinds (turn_near half_turned near) ws) label)
    (turned_product half_cost half_turned sign near ws label (λ kind b lt. half_factor_in kind.plane kind.phase b lt) refl below
    ∙ ap (λ t. mul t (vertex_product ws label)) (picked_signs near (ids ws) label ∙ ap sign parity))
    ∙ ap (λ t. mul (mul (delete_half_in plane) t) (vertex_product (with_kinds (turn_near half_turned near) ws) label)) costs)

pub delete_sum : (g : Graph) (u : ℕ) (h : Graph) (x y : List Bool) → WellFormed g → WellFormed h → IsDelete g u h → mul one (graph_sum g x y) ≡ mul (delete_right g u) (graph_sum h x y)
delete_sum g u h x y wg wh c =
    removal_sum g u (delete_kind (phase_of g u) (joined g.edges u)) h wg wh (is_removal g u h wg c) (delete_right g u) x y
    (λ label. deleted_at (plane_of g u) (phase_of g u) (joined g.edges u) (masked (joined g.edges u) (ids (without u g.vertices)) label) g.vertices (without u g.vertices) label c.deletable.plane c.deletable.phase
    (product_of-without (joined g.edges u) half_cost u g.vertices (no_loop g u wg)) refl (list_all-without _ u g.vertices wg.phases_below_a_turn))

delete_keeps_odd : (phase : ℕ) (near : ℕ → Bool) → KeepsOdd (delete_kind phase near)
delete_keeps_odd phase near p k h = cond_odd (eqb phase half_turn && near p) _ _ _ (half_odd k.plane k.phase h) refl

pub half_turns_even : (k : ℕ) → IsHalfTurns k → is_odd k ≡ false
half_turns_even k (inl e) = ap is_odd e
half_turns_even k (inr e) = ap is_odd e

module _ (g : Graph) (u : ℕ) (h : Graph) (w : WellFormed g) (c : IsDelete g u h) where
  odd_left : odd_phases h ≡ count odd_test (without u g.vertices)
  odd_left =
      ap (count odd_test) c.vertices
      ∙ odd_changed g (delete_kind (phase_of g u) (joined g.edges u)) (without u g.vertices) (delete_keeps_odd (phase_of g u) (joined g.edges u))
      (distinct_without g u w) (phases_left g u w)

  pub odd-delete : odd_phases h ≡ odd_phases g
  odd-delete =
      odd_left ∙ sym (count_front odd_test u g.vertices (distinct g w) c.deletable.there ∙ ap (λ b. one_if b + count odd_test (without u g.vertices)) (half_turns_even (phase_of g u) c.deletable.phase) ∙ omega arith)

  even_left : even_interior h ≡ count (even_test g) (without u g.vertices)
  even_left =
      even_kept g h c.frame ∙ ap (count (even_test g)) c.vertices
      ∙ even_changed g (delete_kind (phase_of g u) (joined g.edges u)) (without u g.vertices) (delete_keeps_odd (phase_of g u) (joined g.edges u))
      (distinct_without g u w) (phases_left g u w)

  pub even-delete : even_interior h + 1 ≡ even_interior g
  even-delete =
      left_one _ _ _ _ _ refl even_left (count_front (even_test g) u g.vertices (distinct g w) c.deletable.there
      ∙ ap₂ (λ a b. one_if (a && not b) + count (even_test g) (without u g.vertices)) (gone_interior g u w c.deletable.plane) (half_turns_even (phase_of g u) c.deletable.phase))

  delete_plane : (p : ℕ) (k : Kind) → is_XY (delete_kind (phase_of g u) (joined g.edges u) p k).plane ≡ is_XY k.plane
  delete_plane p k = cond_plane (eqb (phase_of g u) half_turn && joined g.edges u p) (half_turned k) k (is_XY k.plane) (half_plane k.plane k.phase) refl

  pub planes-delete : not_XY h + 1 ≡ not_XY g
  planes-delete =
      left_one _ _ _ _ _ (ap (count plane_test) c.vertices ∙ count-with_kinds plane_test (delete_kind (phase_of g u) (joined g.edges u)) (without u g.vertices))
      (count_same _ plane_test (without u g.vertices) (distinct_without g u w) (λ p m. ap not (delete_plane p (kind_of (without u g.vertices) p))))
      (count_front plane_test u g.vertices (distinct g w) c.deletable.there
      ∙ ap (λ b. one_if (not b) + count plane_test (without u g.vertices)) (off_XY (plane_of g u) c.deletable.plane))

module _ (g : Graph) (u : ℕ) where
  pub deletable_from : may_delete g u ≡ true → IsDeletable g u
  deletable_from h = record {
    there = and-left _ _ (and-left _ _ h);
    plane = λ e. true≢false (sym (ap is_XY e) ∙ not-true (is_XY (plane_of g u)) (and-right _ _ (and-left _ _ h)));
    phase = half_turns_from (phase_of g u) (and-right _ _ h);
  }

  pub deletable_to : IsDeletable g u → may_delete g u ≡ true
  deletable_to d =
      both _ _ (both _ _ d.there (ap not (off_XY (plane_of g u) d.plane))) (half_turns_to (phase_of g u) d.phase)

module _ (g : Graph) (w : WellFormed g) where
  pub after_delete : (u : ℕ) → allowed g (Delete u) ≡ true → IsDelete g u (after (Delete u) g)
  after_delete u h =
      record {
        deletable = deletable_from g u h;
        vertices = refl;
        edges = removal_edges g w u _ (ids-with_kinds (delete_kind (phase_of g u) (joined g.edges u)) (without u g.vertices) ∙ ids-without u g.vertices) (rising_without g w (delete_kind (phase_of g u) (joined g.edges u)) u);
        frame = record { ordered = OrderedEdges-edges_of _ _ (rising_without g w (delete_kind (phase_of g u) (joined g.edges u)) u); inputs = refl; outputs = refl };
      }
