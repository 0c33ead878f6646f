-- Each change at the outputs keeps well-formedness.
use Rattle.std.proofs.Common.{◌≡◌, ◌≢◌, ◌⊎◌, inl, inr, sym, ◌∙◌, ap, subst, refl, ℕ, zero as nought, suc, Bool, true, false, not, ◌||◌, eqb, ne_eqb, ltb, List, [], ◌∷◌, set, true≢false}
use Rattle.std.proofs.lemmas.List.{set-set}
use Rattle.std.specs.Prelude.{slice_get, Some}
use Rattle.std.specs.List.{list_all}
use Rattle.zx_model.specs.Bits.{member}
use Rattle.zx_calculus.specs.Graph.{YZ, Vertex, End, Graph, ids, kind_of, plane_of, is_XY, end_vertices, in_order, different, without, WellFormed, OrderedEdges, OrderedEnds, plain}
use Rattle.zx_calculus.specs.Splits.{spider_of_phase_zero}
use Rattle.zx_calculus.specs.Edits.{IsRemoval}
use Rattle.zx_calculus.specs.Gadgets.{fuse_kind}
use Rattle.zx_calculus.proofs.Booleans.{or-true}
use Rattle.zx_calculus.proofs.Ids.{by_test, by_equal, and-left, and-right, or-left, or-right, member-different, apart_of_member, member-removed_other}
use Rattle.zx_calculus.proofs.Forms.{ids-without}
use Rattle.zx_calculus.proofs.Vertices.{ids-with_kinds, without-insert, list_all-without, all_below_a_turn, kind_of-without}
use Rattle.zx_calculus.proofs.Splitting.{all_at, interior_of}
use Rattle.zx_calculus.proofs.Kept.{both, all_by, in_order-removed, kept_kinds, ends_without, different-all}
use Rattle.zx_calculus.proofs.Edits.{removal_kept}
use Rattle.zx_calculus.proofs.Gadgets.{fuse_kind_below, fuse_XY}
use Rattle.zx_calculus.proofs.Splits.{split_output_kept}
use Rattle.circuit_laws.specs.Peeling.{IsPhasePeel, IsEdgePeel, IsMarkPeel, IsSpiderPeel, IsRowAddition, IsExchange, IsGadgetPeel, IsLinkedGadgetPeel, marked}
use Rattle.circuit_laws.proofs.Places.{first_is, member-places, places-same, slice_get-set, set_same, apart_from, ordered_by_places}
use Rattle.circuit_laws.proofs.Advancing.{with_mark, with_mark_formed, is_split}

-- with the same vertices, and ends at the same ones
pub formed_from : (g h : Graph) → WellFormed h → g.vertices ≡ h.vertices → OrderedEdges (ids g.vertices) g.edges →
    g.inputs ≡ h.inputs → end_vertices g.outputs ≡ end_vertices h.outputs → WellFormed g
formed_from g h w vertices ordered inputs outputs = record {
  vertices_rising = ap (λ vs. in_order ltb (ids vs)) vertices ∙ w.vertices_rising;
  phases_below_a_turn = ap all_below_a_turn vertices ∙ w.phases_below_a_turn;
  edges = ordered;
  inputs = rw (vertices, inputs) w.inputs;
  outputs = rw vertices (ordered_by_places h.vertices h.outputs g.outputs outputs w.outputs);
}

pub same_edges : (g h : Graph) → WellFormed h → ids g.vertices ≡ ids h.vertices → g.edges ≡ h.edges →
    OrderedEdges (ids g.vertices) g.edges
same_edges g h w vertices edges = rw (vertices, edges) w.edges

pub phase_formed : (g : Graph) (q k : ℕ) (h : Graph) → WellFormed h → IsPhasePeel g q k h → WellFormed g
phase_formed g q k h w c =
    kept_kinds h (fuse_kind c.vertex k) g w (fuse_kind_below c.vertex k) (λ p t. fuse_XY c.vertex k p) (λ p t. fuse_XY c.vertex k p)
    c.vertices (record { ordered = same_edges g h w (ap ids c.vertices ∙ ids-with_kinds (fuse_kind c.vertex k) h.vertices) c.edges; inputs = c.inputs; outputs = c.outputs })

pub edge_formed : (g : Graph) (p q : ℕ) (h : Graph) → WellFormed h → IsEdgePeel g p q h → WellFormed g
edge_formed g p q h w c = formed_from g h w c.vertices c.frame.ordered c.frame.inputs (ap end_vertices c.frame.outputs)

pub edge_formed_back : (g : Graph) (p q : ℕ) (h : Graph) → WellFormed g → IsEdgePeel g p q h → WellFormed h
edge_formed_back g p q h w c =
    formed_from h g w (sym c.vertices) c.ordered_too (sym c.frame.inputs) (ap end_vertices (sym c.frame.outputs))

mark_places : (g : Graph) (q : ℕ) (h : Graph) → (c : IsMarkPeel g q h) → end_vertices h.outputs ≡ end_vertices g.outputs
mark_places g q h c = ap end_vertices c.outputs ∙ places-same g.outputs q (marked c.vertex) (plain c.vertex) c.output refl

pub mark_formed : (g : Graph) (q : ℕ) (h : Graph) → WellFormed h → IsMarkPeel g q h → WellFormed g
mark_formed g q h w c = formed_from g h w c.vertices (same_edges g h w (ap ids c.vertices) c.edges) c.inputs (sym (mark_places g q h c))

pub mark_formed_back : (g : Graph) (q : ℕ) (h : Graph) → WellFormed g → IsMarkPeel g q h → WellFormed h
mark_formed_back g q h w c = formed_from h g w (sym c.vertices) (same_edges h g w (ap ids (sym c.vertices)) (sym c.edges)) (sym c.inputs) (mark_places g q h c)

pub spider_formed : (g : Graph) (q : ℕ) (h : Graph) → WellFormed h → IsSpiderPeel g q h → WellFormed g
spider_formed g q h w c = split_output_kept (with_mark g q h w c) c.next c.spider g (with_mark_formed g q h w c) (is_split g q h w c)

-- ---- an end that moves to another vertex
-- the end_vertices after it: the new one, and the old ones but that of the end
member-set : (es : List End) (q : ℕ) (e d : End) (x : ℕ) → in_order different (end_vertices es) ≡ true →
    slice_get es q ≡ Some e → member x (end_vertices (set es q d)) ≡ true →
    (x ≡ d.vertex) ⊎ ((member x (end_vertices es) ≡ true) × (x ≢ e.vertex))
member-set [] q e d x once h t = cc
member-set (c ∷ es) nought e d x once h t =
    by_equal x d.vertex (λ s same. inl same)
    (λ s n. let later : member x (end_vertices es) ≡ true = rw s at t in
    inr (
      ap (λ b. eqb x c.vertex || b) later ∙ or-true (eqb x c.vertex),
      apart_of_member x e.vertex (end_vertices es) later (ap (λ (b : End). member b.vertex (end_vertices es)) (sym (first_is c e h)) ∙ member-different c.vertex (end_vertices es) (and-left _ _ once)),
    ))
member-set (c ∷ es) (suc q) e d x once h t =
    by_equal x c.vertex (λ s same. inr (ap (λ b. b || member x (end_vertices es)) s, λ same'. apart_from c.vertex es q e (and-left _ _ once) h (sym same ∙ same')))
    (λ s n. let later : member x (end_vertices (set es q d)) ≡ true = rw s at t in from (member-set es q e d x (and-right _ _ once) h later))
  where
    from : (x ≡ d.vertex) ⊎ ((member x (end_vertices es) ≡ true) × (x ≢ e.vertex)) →
        (x ≡ d.vertex) ⊎ ((member x (end_vertices (c ∷ es)) ≡ true) × (x ≢ e.vertex))
    from (inl s) = inl s
    from (inr s) = inr (ap (λ b. eqb x c.vertex || b) s.0 ∙ or-true (eqb x c.vertex), s.1)

one_each-set : (es : List End) (q : ℕ) (e d : End) → in_order different (end_vertices es) ≡ true → slice_get es q ≡ Some e →
    member d.vertex (end_vertices es) ≡ false → in_order different (end_vertices (set es q d)) ≡ true
one_each-set [] q e d once h absent = refl
one_each-set (c ∷ es) nought e d once h absent = both _ _ (different-all d.vertex (end_vertices es) (or-right _ _ absent)) (and-right _ _ once)
one_each-set (c ∷ es) (suc q) e d once h absent =
    both _ _ (different-all c.vertex (end_vertices (set es q d)) (not_there (member-set es q e d c.vertex (and-right _ _ once) h)))
    (one_each-set es q e d (and-right _ _ once) h (or-right _ _ absent))
  where
    not_there : (member c.vertex (end_vertices (set es q d)) ≡ true → (c.vertex ≡ d.vertex) ⊎ ((member c.vertex (end_vertices es) ≡ true) × (c.vertex ≢ e.vertex))) → member c.vertex (end_vertices (set es q d)) ≡ false
    not_there cases = by_test (member c.vertex (end_vertices (set es q d))) (λ t. absurd (contrary (cases t))) (λ f. f)
      where
        contrary : (c.vertex ≡ d.vertex) ⊎ ((member c.vertex (end_vertices es) ≡ true) × (c.vertex ≢ e.vertex)) → ⊥
        contrary (inl s) = by_equal d.vertex c.vertex (λ t same. true≢false (sym t ∙ or-left _ _ absent)) (λ f n. n (sym s))
        contrary (inr s) = true≢false (sym s.0 ∙ member-different c.vertex (end_vertices es) (and-left _ _ once))

-- the vertex of the end may go
pub ends_moved_off : (vs : List Vertex) (es : List End) (q : ℕ) (e d : End) → OrderedEnds vs es →
    slice_get es q ≡ Some e → member d.vertex (end_vertices es) ≡ false →
    member d.vertex (ids (without e.vertex vs)) ≡ true → is_XY (kind_of (without e.vertex vs) d.vertex).plane ≡ true → OrderedEnds (without e.vertex vs) (set es q d)
ends_moved_off vs es q e d o h absent there plane = record {
  one_each = one_each-set es q e d o.one_each h absent;
  there = all_by _ (end_vertices (set es q d)) (λ p t. at_there p (member-set es q e d p o.one_each h t));
  at_XY = all_by _ (end_vertices (set es q d)) (λ p t. at_plane p (member-set es q e d p o.one_each h t));
}
  where
    at_there : (p : ℕ) → (p ≡ d.vertex) ⊎ ((member p (end_vertices es) ≡ true) × (p ≢ e.vertex)) →
        member p (ids (without e.vertex vs)) ≡ true
    at_there p (inl s) = ap (λ w. member w (ids (without e.vertex vs))) s ∙ there
    at_there p (inr s) = ap (member p) (ids-without e.vertex vs) ∙ member-removed_other p e.vertex (ids vs) s.1 ∙ all_at (λ u. member u (ids vs)) (end_vertices es) p o.there s.0

    at_plane : (p : ℕ) → (p ≡ d.vertex) ⊎ ((member p (end_vertices es) ≡ true) × (p ≢ e.vertex)) →
        is_XY (kind_of (without e.vertex vs) p).plane ≡ true
    at_plane p (inl s) = ap (λ w. is_XY (kind_of (without e.vertex vs) w).plane) s ∙ plane
    at_plane p (inr s) = ap (λ k. is_XY k.plane) (kind_of-without p e.vertex vs s.1) ∙ all_at (λ u. is_XY (kind_of vs u).plane) (end_vertices es) p o.at_XY s.0

pub spider_formed_back : (g : Graph) (q : ℕ) (h : Graph) → WellFormed g → (c : IsSpiderPeel g q h) →
    member c.spider (end_vertices g.inputs) ≡ false →
    member c.next (ids h.vertices) ≡ true → is_XY (kind_of h.vertices c.next).plane ≡ true → member c.next (end_vertices g.outputs) ≡ false → WellFormed h
spider_formed_back g q h w c no_input there plane no_output = record {
  vertices_rising = ap (in_order ltb) (ap ids gone ∙ ids-without c.spider g.vertices) ∙ in_order-removed c.spider (ids g.vertices) w.vertices_rising;
  phases_below_a_turn = ap all_below_a_turn gone ∙ list_all-without _ c.spider g.vertices w.phases_below_a_turn;
  edges = c.ordered_too;
  inputs = rw (gone, ← c.inputs) (ends_without c.spider g.vertices g.inputs w.inputs no_input);
  outputs = subst (λ es. OrderedEnds h.vertices es) (sym back)
      (subst (λ vs. OrderedEnds vs (set g.outputs q (plain c.next))) (sym gone)
      (ends_moved_off g.vertices g.outputs q (plain c.spider) (plain c.next) w.outputs output no_output
      (ap (λ vs. member c.next (ids vs)) (sym gone) ∙ there) (ap (λ vs. is_XY (kind_of vs c.next).plane) (sym gone) ∙ plane)));
}
  where
    gone : h.vertices ≡ without c.spider g.vertices
    gone = sym (ap (without c.spider) c.vertices ∙ without-insert (spider_of_phase_zero c.spider) h.vertices c.fresh)

    output : slice_get g.outputs q ≡ Some (plain c.spider)
    output = ap (λ es. slice_get es q) c.outputs ∙ slice_get-set h.outputs q (plain c.next) (plain c.spider) c.output

    back : h.outputs ≡ set g.outputs q (plain c.next)
    back = sym (ap (λ es. set es q (plain c.next)) c.outputs ∙ set-set h.outputs q (plain c.spider) (plain c.next) ∙ set_same h.outputs q (plain c.next) c.output)

-- ---- a row, an exchange and gadgets
pub row_formed : (g : Graph) (c t : ℕ) (h : Graph) → WellFormed h → IsRowAddition g c t h → WellFormed g
row_formed g c t h w r = formed_from g h w r.vertices r.frame.ordered r.frame.inputs (ap end_vertices r.frame.outputs)

pub row_formed_back : (g : Graph) (c t : ℕ) (h : Graph) → WellFormed g → IsRowAddition g c t h → WellFormed h
row_formed_back g c t h w r =
    formed_from h g w (sym r.vertices) r.ordered_too (sym r.frame.inputs) (ap end_vertices (sym r.frame.outputs))

-- what holds at the end_vertices, and at that of the new end
list_all-set : (test : ℕ → Bool) (es : List End) (q : ℕ) (d : End) → test d.vertex ≡ true →
    list_all test (end_vertices es) ≡ true → list_all test (end_vertices (set es q d)) ≡ true
list_all-set test [] q d h k = refl
list_all-set test (e ∷ es) nought d h k = both _ _ h (and-right _ _ k)
list_all-set test (e ∷ es) (suc q) d h k = both _ _ (and-left _ _ k) (list_all-set test es q d h (and-right _ _ k))

-- two ends exchanged stand at different vertices still: a place of the first stands before one of the second or after it
exchanged_ahead : (e : End) (es : List End) (q : ℕ) (u v : ℕ) → in_order different (end_vertices (e ∷ es)) ≡ true →
    e.vertex ≡ u → slice_get es q ≡ Some (plain v) →
    in_order different (end_vertices (plain v ∷ set es q (plain u))) ≡ true
exchanged_ahead e es q u v once same h =
    both _ _
    (different-all v (end_vertices (set es q (plain u))) (by_test (member v (end_vertices (set es q (plain u)))) (λ t. absurd (contrary (member-set es q (plain v) (plain u) v (and-right _ _ once) h t))) (λ f. f)))
    (one_each-set es q (plain v) (plain u) (and-right _ _ once) h (ap (λ w. member w (end_vertices es)) (sym same) ∙ member-different e.vertex (end_vertices es) (and-left _ _ once)))
  where
    contrary : (v ≡ u) ⊎ ((member v (end_vertices es) ≡ true) × (v ≢ v)) → ⊥
    contrary (inl s) = apart_from e.vertex es q (plain v) (and-left _ _ once) h (same ∙ sym s)
    contrary (inr s) = s.1 refl

one_each-exchanged : (es : List End) (p q u v : ℕ) → in_order different (end_vertices es) ≡ true → p ≢ q →
    slice_get es p ≡ Some (plain u) → slice_get es q ≡ Some (plain v) →
    in_order different (end_vertices (set (set es p (plain v)) q (plain u))) ≡ true
one_each-exchanged [] p q u v once n h i = refl
one_each-exchanged (e ∷ es) nought nought u v once n h i = absurd (n refl)
one_each-exchanged (e ∷ es) nought (suc q) u v once n h i = exchanged_ahead e es q u v once (ap (λ (b : End). b.vertex) (first_is e (plain u) h)) i
one_each-exchanged (e ∷ es) (suc p) nought u v once n h i = exchanged_ahead e es p v u once (ap (λ (b : End). b.vertex) (first_is e (plain v) i)) h
one_each-exchanged (e ∷ es) (suc p) (suc q) u v once n h i =
    both _ _
    (list_all-set (different e.vertex) (set es p (plain v)) q (plain u) (ap not (ne_eqb e.vertex u (apart_from e.vertex es p (plain u) (and-left _ _ once) h)))
    (list_all-set (different e.vertex) es p (plain v) (ap not (ne_eqb e.vertex v (apart_from e.vertex es q (plain v) (and-left _ _ once) i))) (and-left _ _ once)))
    (one_each-exchanged es p q u v (and-right _ _ once) (λ s. n (ap (λ k. suc k) s)) h i)

pub exchange_formed_back : (g : Graph) (p q : ℕ) (h : Graph) → WellFormed g → IsExchange g p q h → WellFormed h
exchange_formed_back g p q h w c = record {
  vertices_rising = ap (λ vs. in_order ltb (ids vs)) (sym c.vertices) ∙ w.vertices_rising;
  phases_below_a_turn = ap all_below_a_turn (sym c.vertices) ∙ w.phases_below_a_turn;
  edges = same_edges h g w (ap ids (sym c.vertices)) (sym c.edges);
  inputs = rw (← c.vertices, ← c.inputs) w.inputs;
  outputs = rw (← c.vertices, c.outputs) (record {
    one_each = one_each-exchanged g.outputs p q c.first c.second w.outputs.one_each c.different c.output c.output_too;
    there = holds (λ u. member u (ids g.vertices)) w.outputs.there;
    at_XY = holds (λ u. is_XY (kind_of g.vertices u).plane) w.outputs.at_XY;
  });
}
  where
    holds : (test : ℕ → Bool) → list_all test (end_vertices g.outputs) ≡ true →
        list_all test (end_vertices (set (set g.outputs p (plain c.second)) q (plain c.first))) ≡ true
    holds test all =
        list_all-set test (set g.outputs p (plain c.second)) q (plain c.first) (all_at test (end_vertices g.outputs) c.first all (member-places g.outputs p (plain c.first) c.output))
        (list_all-set test g.outputs p (plain c.second) (all_at test (end_vertices g.outputs) c.second all (member-places g.outputs q (plain c.second) c.output_too)) all)

removal_formed : (g : Graph) (v : ℕ) (h : Graph) → WellFormed g → plane_of g v ≡ YZ → IsRemoval g v h → WellFormed h
removal_formed g v h w plane r =
    removal_kept g v h w (interior_of g v w (ap is_XY plane)) r

pub gadget_formed_back : (g : Graph) (v : ℕ) (qubits : List ℕ) (h : Graph) → WellFormed g →
    IsGadgetPeel g v qubits h → WellFormed h
gadget_formed_back g v qubits h w c = removal_formed g v h w c.plane c.removal

pub linked_gadget_formed_back : (g : Graph) (v q : ℕ) (qubits : List ℕ) (h : Graph) → WellFormed g →
    IsLinkedGadgetPeel g v q qubits h → WellFormed h
linked_gadget_formed_back g v q qubits h w c = removal_formed g v h w c.plane c.removal
