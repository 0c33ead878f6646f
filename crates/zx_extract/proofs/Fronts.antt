-- Graphs whose edges at outputs stand in rows, and what changes of the rows come to.
use Rattle.std.proofs.Common.{◌≡◌, ◌≢◌, refl, sym, ◌∙◌, ap, ap₂, subst, inl, inr, ℕ, zero as nought, suc, ◌+◌, add-one, Bool, true, false, not, ◌&&◌, ◌||◌, eqb, ne_eqb, eqb-true, ◌<◌, List, [], ◌∷◌, ◌++◌, length, remove, set, take, true≢false}
use Rattle.std.proofs.lemmas.Bool.{or_cases}
use mathlib.Core.Bool.{beq}
use Rattle.std.proofs.lemmas.Option.{slice_get_within}
use Rattle.std.specs.Prelude.{◌⊎◌, slice_get, Some, if◌then◌else◌}
use Rattle.zx_model.specs.Bits.{xor, member}
use Rattle.zx_calculus.specs.Graph.{Kind, End, Graph, ids, joined, end_vertices, neighbours, with_kinds, without, IsVertex, Interior, OrderedEdges, WellFormed, plain}
use Rattle.zx_calculus.specs.Edits.{is_pair, IsToggle, IsRemoval}
use Rattle.zx_calculus.specs.Toggles.{across, IsToggled}
use Rattle.zx_calculus.specs.Adjacency.{edges_of}
use Rattle.zx_calculus.proofs.Booleans.{and-false, and-true, xor-false, or-true, or-false}
use Rattle.zx_calculus.proofs.Ids.{by_test, by_equal, eqb-self, Symmetric, member-removed_other, and-left, and-right}
use Rattle.zx_calculus.proofs.Edges.{joined_comm}
use Rattle.zx_calculus.proofs.EdgeLists.{joined-edges_of, OrderedEdges-edges_of, edges_ext}
use Rattle.zx_calculus.proofs.Forms.{ids-without}
use Rattle.zx_calculus.proofs.Programs.{neighbour, end_there}
use Rattle.zx_calculus.proofs.Results.{restrict}
use Rattle.zx_calculus.proofs.Splits.{is_pair-self}
use Rattle.zx_calculus.proofs.Splitting.{joined-self, no_loop}
use Rattle.zx_calculus.proofs.Vertices.{ids-with_kinds}
use Rattle.gflow_laws.proofs.Lists.{member-append, is_in-one}
use Rattle.open_graph.specs.VertexSets.{VertexSet}
use Rattle.zx_flow.specs.VertexSets.{set_at, SameSetsBut, AreToggledAt}
use Rattle.zx_extract.specs.Internal.FrontGraphs.{row_has, told, front_adjacent, front_graph, AreOutputsApart, HasRows, IsRowPut, IsMet, IsRowTaken}
use Rattle.circuit_laws.proofs.Places.{member-places, absent-remove}
use Rattle.zx_extract.proofs.Places.{member-places_set}

told_comm : (a b x y e : Bool) → told a b x y e ≡ told b a y x e
told_comm true true x y e = refl
told_comm true false x y e = refl
told_comm false true x y e = refl
told_comm false false x y e = refl

-- ---- the edges of such a graph
module _ (g : Graph) (rows : List VertexSet) where
  abbrev outs : List ℕ
  outs = end_vertices g.outputs

  abbrev there : ℕ → Bool
  there p = member p (ids g.vertices)

  abbrev near : ℕ → ℕ → Bool
  near = front_adjacent (end_vertices g.outputs) g.edges rows

  symmetric : Symmetric near
  symmetric p q = told_comm (member p outs) (member q outs) (row_has rows p q) (row_has rows q p) (joined g.edges p q)
      ∙ ap (told (member q outs) (member p outs) (row_has rows q p) (row_has rows p q)) (joined_comm g.edges p q)

  pub edge_is : (p q : ℕ) → p ≢ q → joined (front_graph g rows).edges p q ≡ ((there p && there q) && near p q)
  edge_is p q n = joined-edges_of near (ids g.vertices) p q symmetric n

  module _ (wf : WellFormed g) where
    pub ordered : OrderedEdges (ids g.vertices) (front_graph g rows).edges
    ordered = OrderedEdges-edges_of near (ids g.vertices) wf.vertices_rising

    pub formed : WellFormed (front_graph g rows)
    formed = record {
      vertices_rising = wf.vertices_rising;
      phases_below_a_turn = wf.phases_below_a_turn;
      edges = ordered;
      inputs = wf.inputs;
      outputs = wf.outputs;
    }

    pub itself : (p : ℕ) → joined (front_graph g rows).edges p p ≡ false
    itself p = joined-self (front_graph g rows).edges p ordered.lower_first

    pub output_live : (p : ℕ) → member p outs ≡ true → there p ≡ true
    output_live p = end_there g wf p g.outputs wf.outputs.there

    -- of an output and another vertex the row tells
    pub row_tells : (u v : ℕ) → member u outs ≡ true → there v ≡ true → member v outs ≡ false →
        row_has rows u v ≡ joined (front_graph g rows).edges v u
    row_tells u v at_u live_v out_v = sym (edge_is v u (λ e. true≢false (sym at_u ∙ ap (λ p. member p outs) (sym e) ∙ out_v))
        ∙ ap₂ (λ a b. (a && b) && near v u) live_v (output_live u at_u)
        ∙ ap₂ (λ a b. told a b (row_has rows v u) (row_has rows u v) (joined g.edges v u)) out_v at_u)

    -- of two outputs the graph tells
    pub graph_tells : (u v : ℕ) → member u outs ≡ true → member v outs ≡ true →
        joined g.edges u v ≡ joined (front_graph g rows).edges u v
    graph_tells u v at_u at_v = by_equal u v
        (λ _ e. ap (joined g.edges u) (sym e) ∙ no_loop g u wf ∙ sym (ap (joined (front_graph g rows).edges u) (sym e) ∙ itself u))
        (λ _ n. sym (edge_is u v n ∙ ap₂ (λ a b. (a && b) && near u v) (output_live u at_u) (output_live v at_v)
        ∙ ap₂ (λ a b. told a b (row_has rows u v) (row_has rows v u) (joined g.edges u v)) at_u at_v))

    -- of two others the graph tells too
    pub inner_tells : (u v : ℕ) → there u ≡ true → there v ≡ true → member u outs ≡ false → member v outs ≡ false →
        joined (front_graph g rows).edges u v ≡ joined g.edges u v
    inner_tells u v live_u live_v out_u out_v = by_equal u v
        (λ _ e. ap (joined (front_graph g rows).edges u) (sym e) ∙ itself u ∙ sym (ap (joined g.edges u) (sym e) ∙ no_loop g u wf))
        (λ _ n. edge_is u v n ∙ ap₂ (λ a b. (a && b) && near u v) live_u live_v
        ∙ ap₂ (λ a b. told a b (row_has rows u v) (row_has rows v u) (joined g.edges u v)) out_u out_v)

    pub dead_tells : (u v : ℕ) → there v ≡ false → joined (front_graph g rows).edges u v ≡ false
    dead_tells u v dead = restrict (ids g.vertices) (front_graph g rows).edges u v ordered
        ∙ ap (λ b. (there u && b) && joined (front_graph g rows).edges u v) dead
        ∙ ap (λ b. b && joined (front_graph g rows).edges u v) (and-false (there u))

-- ---- the same graph
pub same_graph : (g : Graph) (rows : List VertexSet) → WellFormed g → HasRows g (end_vertices g.outputs) rows →
    front_graph g rows ≡ g
same_graph g rows wf has = λ j. record { vertices = g.vertices; edges = edges j; inputs = g.inputs; outputs = g.outputs }
  where
    told_same : (a b x y e : Bool) → (a ≡ true → x ≡ (e && not b)) → (b ≡ true → y ≡ (e && not a)) → told a b x y e ≡ e
    told_same true true x y e f h = refl
    told_same true false x y e f h = f refl ∙ and-true e
    told_same false true x y e f h = h refl ∙ and-true e
    told_same false false x y e f h = refl

    edges : (front_graph g rows).edges ≡ g.edges
    edges = edges_ext (front_graph g rows).edges g.edges (ordered g rows wf).lower_first wf.edges.lower_first
        (ordered g rows wf).rising wf.edges.rising
        (λ p q n. edge_is g rows p q n
        ∙ ap (λ b. (member p (ids g.vertices) && member q (ids g.vertices)) && b)
        (told_same (member p (end_vertices g.outputs)) (member q (end_vertices g.outputs)) (row_has rows p q) (row_has rows q p) (joined g.edges p q) (has p q)
        (λ at_q. has q p at_q ∙ ap (λ b. b && not (member p (end_vertices g.outputs))) (joined_comm g.edges q p)))
        ∙ sym (restrict (ids g.vertices) g.edges p q wf.edges))

-- ---- kinds and marks
pub kinds_changed : (g h : Graph) (rows : List VertexSet) (change : ℕ → Kind → Kind) →
    h ≡ record g { vertices = with_kinds change g.vertices } →
    front_graph h rows ≡ record (front_graph g rows) { vertices = with_kinds change g.vertices }
kinds_changed g h rows change is = ap (λ k. front_graph k rows) is
    ∙ ap (λ vs. record {
      vertices = with_kinds change g.vertices;
      edges = edges_of (front_adjacent (end_vertices g.outputs) g.edges rows) vs;
      inputs = g.inputs;
      outputs = g.outputs;
    }) (ids-with_kinds change g.vertices)

pub outputs_changed : (g h : Graph) (rows : List VertexSet) (outputs : List End) → h ≡ record g { outputs = outputs } →
    end_vertices outputs ≡ end_vertices g.outputs → front_graph h rows ≡ record (front_graph g rows) { outputs = outputs }
outputs_changed g h rows outputs is same = ap (λ k. front_graph k rows) is
    ∙ ap (λ vs. record {
      vertices = g.vertices;
      edges = edges_of (front_adjacent vs g.edges rows) (ids g.vertices);
      inputs = g.inputs;
      outputs = outputs;
    }) same

-- ---- an edge between outputs
pair_both : (u v p q : ℕ) → is_pair u v p q ≡ true → ((p ≡ u) × (q ≡ v)) ⊎ ((p ≡ v) × (q ≡ u))
pair_both u v p q h = from (or_cases (eqb p u && eqb q v) (eqb p v && eqb q u) h)
  where
    from : ((eqb p u && eqb q v) ≡ true) ⊎ ((eqb p v && eqb q u) ≡ true) → ((p ≡ u) × (q ≡ v)) ⊎ ((p ≡ v) × (q ≡ u))
    from (inl t) = inl (eqb-true p u (and-left _ _ t), eqb-true q v (and-right _ _ t))
    from (inr t) = inr (eqb-true p v (and-left _ _ t), eqb-true q u (and-right _ _ t))

flipped : (l a b x y e k : Bool) → (k ≡ true → (l ≡ true) × (a ≡ true) × (b ≡ true)) →
    (l && told a b x y (xor e k)) ≡ xor (l && told a b x y e) k
flipped l a b x y e false h = ap (λ f. l && told a b x y f) (xor-false e) ∙ sym (xor-false (l && told a b x y e))
flipped l a b x y e true h = let t : (l ≡ true) × (a ≡ true) × (b ≡ true) = h refl in
    (λ i. t.0 i && told (t.1 i) (t.2 i) x y (xor e true)) ∙ sym (λ i. xor (t.0 i && told (t.1 i) (t.2 i) x y e) true)

pub edge_toggled : (g h : Graph) (rows : List VertexSet) (u v : ℕ) → WellFormed g → WellFormed h →
    member u (end_vertices g.outputs) ≡ true → member v (end_vertices g.outputs) ≡ true → u ≢ v → IsToggle g u v h →
    IsToggle (front_graph g rows) u v (front_graph h rows)
edge_toggled g h rows u v wf wf_h at_u at_v apart toggle = record {
  vertices = toggle.vertices;
  edges = λ p q. by_equal p q
      (λ _ e. subst (λ r. joined (front_graph h rows).edges p r ≡ xor (joined (front_graph g rows).edges p r) (is_pair u v p r)) e
      (itself h rows wf_h p ∙ sym (ap₂ xor (itself g rows wf p) (is_pair-self u v apart p))))
      (λ _ n. edge_is h rows p q n ∙ same p q
      ∙ flipped (member p (ids g.vertices) && member q (ids g.vertices)) (member p (end_vertices g.outputs)) (member q (end_vertices g.outputs)) (row_has rows p q) (row_has rows q p) (joined g.edges p q)
      (is_pair u v p q) (both p q)
      ∙ ap (λ b. xor b (is_pair u v p q)) (sym (edge_is g rows p q n)));
  frame = record {
    ordered = ordered h rows wf_h;
    inputs = toggle.frame.inputs;
    outputs = toggle.frame.outputs;
  };
}
  where
    same : (p q : ℕ) → ((member p (ids h.vertices) && member q (ids h.vertices)) && front_adjacent (end_vertices h.outputs) h.edges rows p q)
        ≡ ((member p (ids g.vertices) && member q (ids g.vertices)) && told (member p (end_vertices g.outputs)) (member q (end_vertices g.outputs)) (row_has rows p q) (row_has rows q p) (xor (joined g.edges p q) (is_pair u v p q)))
    same p q = λ i. (member p (ids (toggle.vertices i)) && member q (ids (toggle.vertices i)))
        && told (member p (end_vertices (toggle.frame.outputs i))) (member q (end_vertices (toggle.frame.outputs i)))
        (row_has rows p q) (row_has rows q p) (toggle.edges p q i)

    both : (p q : ℕ) → is_pair u v p q ≡ true → ((member p (ids g.vertices) && member q (ids g.vertices)) ≡ true) × (member p (end_vertices g.outputs) ≡ true) × (member q (end_vertices g.outputs) ≡ true)
    both p q t = from (pair_both u v p q t)
      where
        from : ((p ≡ u) × (q ≡ v)) ⊎ ((p ≡ v) × (q ≡ u)) → ((member p (ids g.vertices) && member q (ids g.vertices)) ≡ true) × (member p (end_vertices g.outputs) ≡ true) × (member q (end_vertices g.outputs) ≡ true)
        from (inl e) = let a : member p (end_vertices g.outputs) ≡ true = ap (λ w. member w (end_vertices g.outputs)) e.0 ∙ at_u in
            let b : member q (end_vertices g.outputs) ≡ true = ap (λ w. member w (end_vertices g.outputs)) e.1 ∙ at_v in
            (ap₂ (λ x y. x && y) (output_live g rows wf p a) (output_live g rows wf q b), a, b)
        from (inr e) = let a : member p (end_vertices g.outputs) ≡ true = ap (λ w. member w (end_vertices g.outputs)) e.0 ∙ at_v in
            let b : member q (end_vertices g.outputs) ≡ true = ap (λ w. member w (end_vertices g.outputs)) e.1 ∙ at_u in
            (ap₂ (λ x y. x && y) (output_live g rows wf p a) (output_live g rows wf q b), a, b)

-- ---- a row that is added
-- p and q may be the one whose row changes, and n, m tell whether the other row's vertex is next to them
added : (lp lq a b p q x y e n m r s : Bool) → (p ≡ true → (lp ≡ true) × (a ≡ true)) → (q ≡ true → (lq ≡ true) × (b ≡ true)) →
    (n ≡ ((lq && not b) && r)) → (m ≡ ((lp && not a) && s)) →
    ((lp && lq) && told a b (xor x (p && r)) (xor y (q && s)) e) ≡ xor ((lp && lq) && told a b x y e) (xor (p && n) (q && m))
added lp lq a b false false x y e n m r s f g is is_too = (λ i. (lp && lq) && told a b (xor-false x i) (xor-false y i) e)
    ∙ sym (xor-false ((lp && lq) && told a b x y e))
added lp lq a b true q x y e n m r s f g is is_too = first lp a lq b q (f refl).0 (f refl).1 g is is_too
  where
    first : (lp a lq b q : Bool) → lp ≡ true → a ≡ true → (q ≡ true → (lq ≡ true) × (b ≡ true)) →
        n ≡ ((lq && not b) && r) → m ≡ ((lp && not a) && s) →
        ((lp && lq) && told a b (xor x r) (xor y (q && s)) e) ≡ xor ((lp && lq) && told a b x y e) (xor n (q && m))
    first true true true true q l k g is is_too = sym (ap₂ (λ i j. xor e (xor i (q && j))) is is_too
        ∙ ap (λ i. xor e i) (and-false q) ∙ xor-false e)
    first true true true false false l k g is is_too = sym (ap (λ i. xor x i) (xor-false n ∙ is))
    first true true true false true l k g is is_too = absurd (true≢false (sym (g refl).1))
    first true true false b false l k g is is_too = sym (xor-false n ∙ is)
    first true true false b true l k g is is_too = absurd (true≢false (sym (g refl).0))
    first true false lq b q l k g is is_too = absurd (true≢false (sym k))
    first false a lq b q l k g is is_too = absurd (true≢false (sym l))
added lp lq a b false true x y e n m r s f g is is_too = first lp a lq b (g refl).0 (g refl).1 is_too
  where
    first : (lp a lq b : Bool) → lq ≡ true → b ≡ true → m ≡ ((lp && not a) && s) →
        ((lp && lq) && told a b (xor x false) (xor y s) e) ≡ xor ((lp && lq) && told a b x y e) (xor false m)
    first true true true true l k is_too = sym (ap (λ i. xor e i) is_too ∙ xor-false e)
    first true false true true l k is_too = sym (ap (λ i. xor y i) is_too)
    first false a true true l k is_too = sym is_too
    first lp a true false l k is_too = absurd (true≢false (sym k))
    first lp a false b l k is_too = absurd (true≢false (sym l))

module _ (g : Graph) (old new : List VertexSet) (u v : ℕ) (wf : WellFormed g) (at_u : member u (end_vertices g.outputs) ≡ true)
    (at_v : member v (end_vertices g.outputs) ≡ true) (apart : AreOutputsApart (front_graph g old))
    (toggled : AreToggledAt v (set_at old u) old new) where
  -- the neighbours of u
  beside : (q : ℕ) → member q (neighbours (front_graph g old) u) ≡ ((member q (ids g.vertices) && not (member q (end_vertices g.outputs))) && row_has old u q)
  beside q = sym (neighbour (front_graph g old) (formed g old wf) u q)
      ∙ by_test (member q (ids g.vertices))
      (λ l. by_test (member q (end_vertices g.outputs))
      (λ t. apart u q at_u t ∙ sym (ap₂ (λ a b. (a && not b) && row_has old u q) l t))
      (λ f. joined_comm (front_graph g old).edges u q ∙ sym (row_tells g old wf u q at_u l f)
      ∙ sym (ap₂ (λ a b. (a && not b) && row_has old u q) l f)))
      (λ d. dead_tells g old wf u q d ∙ sym (ap (λ a. (a && not (member q (end_vertices g.outputs))) && row_has old u q) d))

  row_is : (p q : ℕ) → row_has new p q ≡ xor (row_has old p q) (eqb p v && row_has old u q)
  row_is p q = by_equal p v
      (λ t e. ap (λ r. row_has new r q) e ∙ toggled.own q
      ∙ sym (ap₂ (λ r b. xor (row_has old r q) (b && row_has old u q)) e t))
      (λ f n. ap (member q) (toggled.others p f)
      ∙ sym (ap (λ b. xor (row_has old p q) (b && row_has old u q)) f ∙ xor-false (row_has old p q)))

  is_v : (p : ℕ) → eqb p v ≡ true → (member p (ids g.vertices) ≡ true) × (member p (end_vertices g.outputs) ≡ true)
  is_v p t = let at : member p (end_vertices g.outputs) ≡ true = ap (λ r. member r (end_vertices g.outputs)) (eqb-true p v t) ∙ at_v in (output_live g old wf p at, at)

  pub row_added : IsToggled (front_graph g old) (across (v ∷ []) (neighbours (front_graph g old) u)) (front_graph g new)
  row_added = record {
    vertices = refl;
    edges = λ p q n. edge_is g new p q n
        ∙ ap₂ (λ x y. (member p (ids g.vertices) && member q (ids g.vertices)) && told (member p (end_vertices g.outputs)) (member q (end_vertices g.outputs)) x y (joined g.edges p q)) (row_is p q) (row_is q p)
        ∙ added (member p (ids g.vertices)) (member q (ids g.vertices)) (member p (end_vertices g.outputs)) (member q (end_vertices g.outputs)) (eqb p v) (eqb q v) (row_has old p q) (row_has old q p)
        (joined g.edges p q) (member q (neighbours (front_graph g old) u)) (member p (neighbours (front_graph g old) u))
        (row_has old u q) (row_has old u p) (is_v p) (is_v q) (beside q) (beside p)
        ∙ ap₂ xor (sym (edge_is g old p q n)) (ap₂ (λ a b. xor (a && member q (neighbours (front_graph g old) u))
        (b && member p (neighbours (front_graph g old) u))) (sym (is_in-one v p)) (sym (is_in-one v q)));
    frame = record { ordered = ordered g new wf; inputs = refl; outputs = refl };
  }

-- ---- a row that is replaced
module _ (g : Graph) (old new : List VertexSet) (u v : ℕ) (row : List ℕ) (wf : WellFormed g)
    (at_u : member u (end_vertices g.outputs) ≡ true) (live_v : IsVertex g v) (out_v : member v (end_vertices g.outputs) ≡ false)
    (apart : AreOutputsApart (front_graph g old)) (put : IsRowPut old u row new)
    (row_is : (w : ℕ) → member w row ≡ (joined g.edges v w && not (member w (end_vertices g.outputs)))) where
  pub row_taken : IsRowTaken (front_graph g old) v u (front_graph g new)
  row_taken = record {
    row = λ w n. by_test (member w (ids g.vertices))
        (λ l. by_test (member w (end_vertices g.outputs))
        (λ t. sym (graph_tells g new wf u w at_u t) ∙ graph_tells g old wf u w at_u t ∙ apart u w at_u t
        ∙ sym (ap (λ b. joined (front_graph g old).edges v w && not b) t ∙ and-false (joined (front_graph g old).edges v w)))
        (λ f. joined_comm (front_graph g new).edges u w ∙ sym (row_tells g new wf u w at_u l f) ∙ put.own w ∙ row_is w
        ∙ ap (λ b. b && not (member w (end_vertices g.outputs))) (sym (inner_tells g old wf v w live_v l out_v f))))
        (λ d. dead_tells g new wf u w d
        ∙ sym (ap (λ b. b && not (member w (end_vertices g.outputs))) (dead_tells g old wf v w d)));
    others = λ p w m k. by_equal p w
        (λ _ e. subst (λ r. joined (front_graph g new).edges p r ≡ joined (front_graph g old).edges p r) e
        (itself g new wf p ∙ sym (itself g old wf p)))
        (λ _ n. edge_is g new p w n
        ∙ ap₂ (λ x y. (member p (ids g.vertices) && member w (ids g.vertices))
        && told (member p (end_vertices g.outputs)) (member w (end_vertices g.outputs)) x y (joined g.edges p w))
        (put.others p w m) (put.others w p k)
        ∙ sym (edge_is g old p w n));
    vertices = refl;
    frame = record { ordered = ordered g new wf; inputs = refl; outputs = refl };
  }

-- ---- a vertex that goes
module _ (g h : Graph) (old new : List VertexSet) (v : ℕ) (wf : WellFormed g) (wf_h : WellFormed h)
    (removal : IsRemoval g v h) (rows : (p q : ℕ) → q ≢ v → row_has new p q ≡ row_has old p q) where
  still : (p : ℕ) → p ≢ v → member p (ids h.vertices) ≡ member p (ids g.vertices)
  still p n = ap (λ vs. member p (ids vs)) removal.vertices ∙ ap (member p) (ids-without v g.vertices)
      ∙ member-removed_other p v (ids g.vertices) n

  pub vertex_removed : IsRemoval (front_graph g old) v (front_graph h new)
  vertex_removed = record {
    vertices = removal.vertices;
    edges = λ p q m k. by_equal p q
        (λ _ e. subst (λ r. joined (front_graph h new).edges p r ≡ joined (front_graph g old).edges p r) e
        (itself h new wf_h p ∙ sym (itself g old wf p)))
        (λ _ n. edge_is h new p q n
        ∙ (λ i. (still p m i && still q k i) && told (member p (end_vertices (removal.frame.outputs i)))
        (member q (end_vertices (removal.frame.outputs i))) (rows p q k i) (rows q p m i) (removal.edges p q m k i))
        ∙ sym (edge_is g old p q n));
    frame = record { ordered = ordered h new wf_h; inputs = removal.frame.inputs; outputs = removal.frame.outputs };
  }

-- ---- an output that moves on
module _ (g met end : Graph) (old new : List VertexSet) (t u v : ℕ) (row : List ℕ) (wf : WellFormed g) (wf_end : WellFormed end)
    (at_t : slice_get g.outputs t ≡ Some (plain u)) (live_v : IsVertex g v) (out_v : member v (end_vertices g.outputs) ≡ false)
    (is_met : IsMet g old v (end_vertices g.outputs) met)
    (removal : IsRemoval (record met { outputs = set met.outputs t (plain v) }) u end)
    (row_is : (w : ℕ) → member w row ≡ (joined g.edges v w && not (member w (end_vertices g.outputs))))
    (own : (w : ℕ) → w ≢ v → row_has new v w ≡ member w row)
    (rows : (p q : ℕ) → p ≢ u → p ≢ v → q ≢ v → row_has new p q ≡ row_has old p q) where
  at_end : (w : ℕ) → w ≢ u → member w (end_vertices end.outputs) ≡ (eqb w v || member w (end_vertices g.outputs))
  at_end w n = ap (λ es. member w (end_vertices es)) removal.frame.outputs
      ∙ ap (λ es. member w (end_vertices (set es t (plain v)))) is_met.outputs_stay
      ∙ member-places_set g.outputs t u v w wf.outputs.one_each at_t
      ∙ ap (λ b. eqb w v || (member w (end_vertices g.outputs) && not b)) (ne_eqb u w (λ e. n (sym e)))
      ∙ ap (λ b. eqb w v || b) (and-true (member w (end_vertices g.outputs)))

  at_v : (w : ℕ) → w ≢ u → eqb w v ≡ true → member w (end_vertices end.outputs) ≡ true
  at_v w n t = at_end w n ∙ ap (λ b. b || member w (end_vertices g.outputs)) t

  as_was : (w : ℕ) → w ≢ u → w ≢ v → member w (end_vertices end.outputs) ≡ member w (end_vertices g.outputs)
  as_was w n m = at_end w n ∙ ap (λ b. b || member w (end_vertices g.outputs)) (ne_eqb w v m)

  stays_live : (p : ℕ) → p ≢ u → member p (ids end.vertices) ≡ member p (ids g.vertices)
  stays_live p n = ap (λ vs. member p (ids vs)) removal.vertices ∙ ap (λ vs. member p (ids (without u vs))) is_met.vertices
      ∙ ap (member p) (ids-without u g.vertices) ∙ member-removed_other p u (ids g.vertices) n

  edge : (p q : ℕ) → p ≢ u → q ≢ u → joined end.edges p q ≡ joined met.edges p q
  edge p q m k = removal.edges p q m k

  -- of v and another vertex
  from_v : (q : ℕ) → v ≢ u → q ≢ u → v ≢ q → joined (front_graph end new).edges v q ≡ joined (front_graph g old).edges v q
  from_v q m k n = edge_is end new v q n
      ∙ (λ i. (stays_live v m i && stays_live q k i) && told (at_v v m (eqb-self v) i) (as_was q k (λ e. n (sym e)) i)
      (own q (λ e. n (sym e)) i) (row_has new q v) (edge v q m k i))
      ∙ ap (λ b. (member v (ids g.vertices) && member q (ids g.vertices)) && b) (by_test (member q (end_vertices g.outputs))
      (λ t. ap₂ (λ a b. told true a (member q row) (row_has new q v) b) t
      (is_met.own q ∙ ap (λ b. if b then row_has old q v else joined g.edges v q) t)
      ∙ sym (ap₂ (λ a b. told a b (row_has old v q) (row_has old q v) (joined g.edges v q)) out_v t))
      (λ f. ap (λ a. told true a (member q row) (row_has new q v) (joined met.edges v q)) f
      ∙ row_is q ∙ ap (λ b. joined g.edges v q && not b) f ∙ and-true (joined g.edges v q)
      ∙ sym (ap₂ (λ a b. told a b (row_has old v q) (row_has old q v) (joined g.edges v q)) out_v f)))
      ∙ sym (edge_is g old v q n)

  of_others : (p q : ℕ) → p ≢ u → q ≢ u → p ≢ v → q ≢ v → p ≢ q →
      joined (front_graph end new).edges p q ≡ joined (front_graph g old).edges p q
  of_others p q m k pv qv n = edge_is end new p q n
      ∙ (λ i. (stays_live p m i && stays_live q k i) && told (as_was p m pv i) (as_was q k qv i) (rows p q m pv qv i) (rows q p k qv pv i)
      ((edge p q m k ∙ is_met.others p q pv qv) i))
      ∙ sym (edge_is g old p q n)

  edges_stay : (p q : ℕ) → p ≢ u → q ≢ u → joined (front_graph end new).edges p q ≡ joined (front_graph g old).edges p q
  edges_stay p q m k = by_equal p q
      (λ _ e. subst (λ r. joined (front_graph end new).edges p r ≡ joined (front_graph g old).edges p r) e
      (itself end new wf_end p ∙ sym (itself g old wf p)))
      (λ _ n. by_equal p v
      (λ _ e. ap (λ r. joined (front_graph end new).edges r q) e
      ∙ from_v q (λ f. m (e ∙ f)) k (λ f. n (e ∙ f)) ∙ sym (ap (λ r. joined (front_graph g old).edges r q) e))
      (λ _ pv. by_equal q v
      (λ _ e. joined_comm (front_graph end new).edges p q ∙ ap (λ r. joined (front_graph end new).edges r p) e
      ∙ from_v p (λ f. k (e ∙ f)) m (λ f. pv (sym f))
      ∙ sym (joined_comm (front_graph g old).edges p q ∙ ap (λ r. joined (front_graph g old).edges r p) e))
      (λ _ qv. of_others p q m k pv qv n)))

  pub advanced_on : IsRemoval (record (front_graph g old) { outputs = set g.outputs t (plain v) }) u (front_graph end new)
  advanced_on = record {
    vertices = removal.vertices ∙ ap (without u) is_met.vertices;
    edges = edges_stay;
    frame = record {
      ordered = ordered end new wf_end;
      inputs = removal.frame.inputs ∙ is_met.inputs;
      outputs = removal.frame.outputs ∙ ap (λ es. set es t (plain v)) is_met.outputs_stay;
    };
  }

-- what the steps on the way ask
module _ {g met : Graph} {rows : List VertexSet} (t : ℕ) {u v : ℕ} (wf : WellFormed g)
    (at_t : slice_get g.outputs t ≡ Some (plain u)) (out_v : member v (end_vertices g.outputs) ≡ false)
    (is_met : IsMet g rows v (end_vertices g.outputs) met) where
  pub met_in_range : t < length met.outputs
  met_in_range = subst (λ es. t < length es) (sym is_met.outputs_stay) (slice_get_within g.outputs t (plain u) at_t)

  pub met_free : {e : End} → e ≡ plain v → member e.vertex (end_vertices (remove met.outputs t)) ≡ false
  met_free is = (λ i. member (is i).vertex (end_vertices (remove (is_met.outputs_stay i) t))) ∙ absent-remove v g.outputs t out_v

  module _ {moved : Graph} {e : End} (is : moved ≡ record met { outputs = set met.outputs t e }) (is_plain : e ≡ plain v) where
    pub moved_is : moved ≡ record met { outputs = set met.outputs t (plain v) }
    moved_is = is ∙ ap (λ d. record met { outputs = set met.outputs t d }) is_plain

    pub here_live : IsVertex moved u
    here_live = ap (λ (h : Graph). member u (ids h.vertices)) is ∙ ap (λ vs. member u (ids vs)) is_met.vertices
        ∙ output_live g rows wf u (member-places g.outputs t (plain u) at_t)

    pub here_interior : member u (end_vertices g.inputs) ≡ false → Interior moved u
    here_interior no_input = record {
      no_input = ap (λ (h : Graph). member u (end_vertices h.inputs)) is ∙ ap (λ es. member u (end_vertices es)) is_met.inputs
          ∙ no_input;
      no_output = ap (λ (h : Graph). member u (end_vertices h.outputs)) moved_is
          ∙ ap (λ es. member u (end_vertices (set es t (plain v)))) is_met.outputs_stay
          ∙ member-places_set g.outputs t u v u wf.outputs.one_each at_t
          ∙ ap₂ (λ a b. a || (member u (end_vertices g.outputs) && not b))
          (ne_eqb u v (λ same. true≢false (sym (member-places g.outputs t (plain u) at_t)
          ∙ ap (λ w. member w (end_vertices g.outputs)) same ∙ out_v))) (eqb-self u)
          ∙ and-false (member u (end_vertices g.outputs));
    }

-- ---- meeting outputs
module _ {g h : Graph} {rows : List VertexSet} {v : ℕ} {outputs : List ℕ} (met : IsMet g rows v outputs h) (w : ℕ) where
  one_more : (x : ℕ) → member x (outputs ++ w ∷ []) ≡ (member x outputs || eqb x w)
  one_more x = member-append x outputs (w ∷ []) ∙ ap (λ b. member x outputs || b) (is_in-one w x)

  pub met_already : joined h.edges v w ≡ row_has rows w v → IsMet g rows v (outputs ++ w ∷ []) h
  met_already is = record {
    vertices = met.vertices;
    inputs = met.inputs;
    outputs_stay = met.outputs_stay;
    others = met.others;
    own = λ x. by_equal x w
        (λ t e. ap (joined h.edges v) e ∙ is ∙ ap (λ y. row_has rows y v) (sym e)
        ∙ sym (ap (λ b. if b then row_has rows x v else joined g.edges v x) (one_more x
        ∙ ap (λ b. member x outputs || b) t ∙ or-true (member x outputs))))
        (λ f n. met.own x ∙ sym (ap (λ b. if b then row_has rows x v else joined g.edges v x) (one_more x
        ∙ ap (λ b. member x outputs || b) f ∙ or-false (member x outputs))));
  }

  pub met_toggled : {k : Graph} → v ≢ w → IsToggle h v w k → row_has rows w v ≡ not (joined h.edges v w) →
      IsMet g rows v (outputs ++ w ∷ []) k
  met_toggled {k} apart toggle is = record {
    vertices = toggle.vertices ∙ met.vertices;
    inputs = toggle.frame.inputs ∙ met.inputs;
    outputs_stay = toggle.frame.outputs ∙ met.outputs_stay;
    others = λ p q pv qv. toggle.edges p q
        ∙ ap₂ (λ a b. xor (joined h.edges p q) ((a && eqb q w) || (eqb p w && b))) (ne_eqb p v pv) (ne_eqb q v qv)
        ∙ ap (λ b. xor (joined h.edges p q) b) (and-false (eqb p w)) ∙ xor-false (joined h.edges p q) ∙ met.others p q pv qv;
    own = λ x. by_equal x w
        (λ t e. toggle.edges v x
        ∙ ap₂ (λ a b. xor (joined h.edges v x) ((a && b) || (eqb v w && eqb x v))) (eqb-self v) t
        ∙ xor-true (joined h.edges v x)
        ∙ ap (λ y. not (joined h.edges v y)) e ∙ sym is ∙ ap (λ y. row_has rows y v) (sym e)
        ∙ sym (ap (λ b. if b then row_has rows x v else joined g.edges v x) (one_more x
        ∙ ap (λ b. member x outputs || b) t ∙ or-true (member x outputs))))
        (λ f n. toggle.edges v x
        ∙ ap₂ (λ a b. xor (joined h.edges v x) ((eqb v v && a) || (b && eqb x v))) f (ne_eqb v w apart)
        ∙ ap (λ b. xor (joined h.edges v x) (b || false)) (and-false (eqb v v)) ∙ xor-false (joined h.edges v x)
        ∙ met.own x ∙ sym (ap (λ b. if b then row_has rows x v else joined g.edges v x) (one_more x
        ∙ ap (λ b. member x outputs || b) f ∙ or-false (member x outputs))));
  }
    where
      xor-true : (b : Bool) → xor b true ≡ not b
      xor-true true = refl
      xor-true false = refl

-- ---- rows
pub row_put : (old clear new : List VertexSet) (u : ℕ) (row : List ℕ) → set_at clear u ≡ [] → SameSetsBut u old clear →
    AreToggledAt u row clear new → IsRowPut old u row new
row_put old clear new u row none others toggled = record {
  own = λ w. toggled.own w ∙ ap (λ set. xor (member w set) (member w row)) none;
  others = λ p w n. ap (member w) (toggled.others p (ne_eqb p u n) ∙ others p (ne_eqb p u n));
}

pub rows_more : (g : Graph) (outputs : List ℕ) {old new : List VertexSet} {row : List ℕ} (v : ℕ) → HasRows g outputs old →
    IsRowPut old v row new →
    ((w : ℕ) → member w row ≡ (joined g.edges v w && not (member w (end_vertices g.outputs)))) → HasRows g (outputs ++ v ∷ []) new
rows_more g outputs {old} {new} {row} v has put is p q at_p = by_equal p v
    (λ _ e. ap (λ r. row_has new r q) e ∙ put.own q ∙ is q
    ∙ ap (λ r. joined g.edges r q && not (member q (end_vertices g.outputs))) (sym e))
    (λ f n. put.others p q n ∙ has p q (sym (member-append p outputs (v ∷ []) ∙ ap (λ b. member p outputs || b) (is_in-one v p ∙ f)
    ∙ or-false (member p outputs)) ∙ at_p))

pub forgotten_more : (old now new : List VertexSet) (w v : ℕ) → ((p q : ℕ) → q ≢ v → row_has now p q ≡ row_has old p q) →
    AreToggledAt w (v ∷ []) now new → (p q : ℕ) → q ≢ v → row_has new p q ≡ row_has old p q
forgotten_more old now new w v before toggled p q n = by_equal p w
    (λ _ e. ap (λ r. row_has new r q) e ∙ toggled.own q
    ∙ ap (xor (row_has now w q)) (is_in-one v q ∙ ne_eqb q v n) ∙ xor-false (row_has now w q)
    ∙ ap (λ r. row_has now r q) (sym e) ∙ before p q n)
    (λ f _. ap (member q) (toggled.others p f) ∙ before p q n)

-- ---- places
pub take_place : (vs : List ℕ) (i w : ℕ) → slice_get vs i ≡ Some w → take (i + 1) vs ≡ take i vs ++ w ∷ []
take_place vs i w h = rw add-one (at vs i h)
  where
    at : (vs : List ℕ) (i : ℕ) → slice_get vs i ≡ Some w → take (suc i) vs ≡ take i vs ++ w ∷ []
    at [] i h = cc
    at (v ∷ vs) nought h = let e : v ≡ w = cc in ap (λ x. x ∷ []) e
    at (v ∷ vs) (suc i) h = ap (λ r. v ∷ r) (at vs i h)

pub place_member : (vs : List ℕ) (i w : ℕ) → slice_get vs i ≡ Some w → member w vs ≡ true
place_member [] i w h = cc
place_member (v ∷ vs) nought w h = let e : w ≡ v = cc in ap (λ b. b || member w vs) (ap (λ x. eqb w x) (sym e) ∙ eqb-self w)
place_member (v ∷ vs) (suc i) w h = ap (λ b. eqb w v || b) (place_member vs i w h) ∙ or-true (eqb w v)

pub same_bits : (a b : Bool) → beq a b ≡ true → b ≡ a
same_bits true true h = refl
same_bits true false h = h
same_bits false true h = sym h
same_bits false false h = refl

pub other_bits : (a b : Bool) → beq a b ≡ false → a ≡ not b
other_bits true true h = h
other_bits true false h = refl
other_bits false true h = refl
other_bits false false h = sym h
