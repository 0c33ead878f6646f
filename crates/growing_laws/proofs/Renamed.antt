-- A step that splits nothing, in a graph and in that graph under other names.
use Rattle.std.proofs.Common.{◌≡◌, ◌≢◌, refl, sym, ◌∙◌, ap, ap₂, subst, true≢false, ℕ, Bool, true, false, cond, ◌&&◌, ◌||◌, not, eqb, ne_eqb, eq-eqb, List, [], ◌∷◌, map}
use Rattle.std.specs.List.{list_all}
use Rattle.zx_model.specs.Bits.{xor, member}
use Rattle.zx_calculus.specs.Graph.{XY, Kind, Vertex, End, Graph, ids, joined, neighbours, kind_of, plane_of, phase_of, is_XY, end_vertices, with_kinds, without, IsVertex, Interior, WellFormed}
use Rattle.zx_calculus.specs.Adjacency.{adjacent_graph}
use Rattle.zx_calculus.specs.Edits.{KeepsEnds}
use Rattle.zx_calculus.specs.Complements.{IsLocalComplement, complement_kind, complemented_graph}
use Rattle.zx_calculus.specs.Deletions.{IsDelete, delete_kind, deleted_graph}
use Rattle.zx_calculus.specs.Pivots.{IsPivot, pivot_kind, pivoted_graph}
use Rattle.zx_calculus.specs.Gadgets.{fuse_kind, IsDropLone, IsFuseInto, IsFuseTwin, dropped_graph}
use Rattle.zx_calculus.specs.Steps.{Step, IsStep, IsRun, allowed, LocalComplement, Delete, Pivot, SplitInput, SplitOutput, DropLone, FuseInto, FuseTwin}
use Rattle.zx_calculus.proofs.Edges.{joined_comm}
use Rattle.zx_calculus.proofs.EdgeLists.{under, OrderedEdges-edges_of}
use Rattle.zx_calculus.proofs.Forms.{ids-without}
use Rattle.zx_calculus.proofs.Ids.{by_test, by_equal, and-left, and-right, not-true, apart_of_member, member-removed_other}
use Rattle.zx_calculus.proofs.Vertices.{ids-with_kinds, kind_of-with_kinds, kind_of-without, with_kinds-identity}
use Rattle.zx_calculus.proofs.Splitting.{no_loop, interior_of, off_XY, member-without}
use Rattle.zx_calculus.proofs.Programs.{absent_right, removal_edges, rising_plain, rising_without}
use Rattle.zx_calculus.proofs.Results.{interior_true}
use Rattle.zx_calculus.proofs.Gadgets.{neighbours_into}
use Rattle.zx_calculus.proofs.Kept.{both}
use Rattle.zx_calculus.proofs.Steps.{step_kept, step_allowed, after_step}
use Rattle.zx_calculus.proofs.Booleans.{and_comm}
use Rattle.zx_calculus.proofs.StepIdentities.{agree}
use Rattle.zx_model.specs.Phase.{half_turn, is_half_turns}
use Rattle.zx_calculus.specs.Turns.{complemented, quarter_turned, half_turned, pivoted, with_phase_added}
use Rattle.growing_laws.specs.Growing.{SplitNothing}
use Rattle.move_laws.specs.Orders.{is_split}
use Rattle.growing_laws.specs.Renaming.{renamed_ends, renamed_step, IsRenamed}

-- ---- ends
pub member-renamed : (to : ℕ → ℕ) (live : ℕ → Bool) (es : List End) (u : ℕ) → list_all live (end_vertices es) ≡ true →
    ((p : ℕ) → live p ≡ true → eqb (to u) (to p) ≡ eqb u p) → member (to u) (end_vertices (renamed_ends to es)) ≡ member u (end_vertices es)
member-renamed to live [] u all same = refl
member-renamed to live (e ∷ es) u all same =
    ap₂ (λ a b. a || b) (same e.vertex (and-left _ _ all)) (member-renamed to live es u (and-right _ _ all) same)

-- ---- two graphs, one named as the other
module _ (to back : ℕ → ℕ) (g h : Graph) (wg : WellFormed g) (wh : WellFormed h) (R : IsRenamed to back g h) where
  pub one_name : (u v : ℕ) → IsVertex g u → IsVertex g v → to u ≡ to v → u ≡ v
  one_name u v there there' e = sym (R.same u there) ∙ ap back e ∙ R.same v there'

  pub eqb-named : (u v : ℕ) → IsVertex g u → IsVertex g v → eqb (to u) (to v) ≡ eqb u v
  eqb-named u v there there' =
      by_equal u v (λ t e. eq-eqb (to u) (to v) (ap to e) ∙ sym t) (λ f n. ne_eqb (to u) (to v) (λ e. n (one_name u v there there' e)) ∙ sym f)

  pub inside : (u : ℕ) → IsVertex g u → Interior g u → Interior h (to u)
  inside u there inner = record {
    no_input = ap (λ es. member (to u) (end_vertices es)) R.inputs
        ∙ member-renamed to (λ p. member p (ids g.vertices)) g.inputs u wg.inputs.there (λ p t. eqb-named u p there t) ∙ inner.no_input;
    no_output = ap (λ es. member (to u) (end_vertices es)) R.outputs
        ∙ member-renamed to (λ p. member p (ids g.vertices)) g.outputs u wg.outputs.there (λ p t. eqb-named u p there t) ∙ inner.no_output;
  }

  pub plane : (u : ℕ) → IsVertex g u → plane_of h (to u) ≡ plane_of g u
  plane u there = ap (λ (k : Kind). k.plane) (R.kinds u there)

  pub phase : (u : ℕ) → IsVertex g u → phase_of h (to u) ≡ phase_of g u
  phase u there = ap (λ (k : Kind). k.phase) (R.kinds u there)

  off_plane : (u : ℕ) → plane_of g u ≢ XY → Interior g u
  off_plane u n = interior_of g u wg (off_XY (plane_of g u) n)

  -- what is adjacent to a vertex of h, by old names
  row : (test : ℕ → Bool) (u : ℕ) → IsVertex g u → ((p : ℕ) → IsVertex g p → joined g.edges u p ≡ test (to p)) →
      ((p : ℕ) → member p (ids h.vertices) ≡ false → test p ≡ false) → (p : ℕ) → joined h.edges (to u) p ≡ test p
  row test u there old none p =
      by_test (member p (ids h.vertices))
      (λ t. ap (joined h.edges (to u)) (sym (R.same_back p t)) ∙ R.edges u (back p) there (R.there_back p t) ∙ old (back p) (R.there_back p t)
      ∙ ap test (R.same_back p t))
      (λ f. absent_right h wh (to u) p f ∙ sym (none p f))

  -- ---- the graphs after a step
  module _ (g' h' : Graph) (fg : KeepsEnds g g') (fh : KeepsEnds h h') where
    ends : (after before old : List End) → after ≡ before → before ≡ renamed_ends to old → (new : List End) → new ≡ old → after ≡ renamed_ends to new
    ends after before old e r new n = e ∙ r ∙ ap (renamed_ends to) (sym n)

    -- kinds change, and edges are toggled
    changed : (f f' : ℕ → Kind → Kind) → g'.vertices ≡ with_kinds f g.vertices → h'.vertices ≡ with_kinds f' h.vertices →
        ((p : ℕ) (k : Kind) → IsVertex g p → f' (to p) k ≡ f p k) →
        ((p q : ℕ) → IsVertex g p → IsVertex g q → joined h'.edges (to p) (to q) ≡ joined g'.edges p q) → IsRenamed to back g' h'
    changed f f' vg vh same edges = record {
      there = λ v t. later (to v) (R.there v (earlier v t));
      there_back = λ v t. live_g (back v) (R.there_back v (live_h v t));
      same = λ v t. R.same v (earlier v t);
      same_back = λ v t. R.same_back v (live_h v t);
      kinds = λ v t. let old : IsVertex g v = earlier v t in
          ap (λ vs. kind_of vs (to v)) vh ∙ kind_of-with_kinds f' (to v) h.vertices (R.there v old)
          ∙ same v (kind_of h.vertices (to v)) old ∙ ap (f v) (R.kinds v old)
          ∙ sym (ap (λ vs. kind_of vs v) vg ∙ kind_of-with_kinds f v g.vertices old);
      edges = λ v w t s. edges v w (earlier v t) (earlier w s);
      inputs = ends h'.inputs h.inputs g.inputs fh.inputs R.inputs g'.inputs fg.inputs;
      outputs = ends h'.outputs h.outputs g.outputs fh.outputs R.outputs g'.outputs fg.outputs;
    }
      where
        earlier : (v : ℕ) → IsVertex g' v → IsVertex g v
        earlier v t = sym (ap (λ vs. member v (ids vs)) vg ∙ ap (member v) (ids-with_kinds f g.vertices)) ∙ t

        live_g : (v : ℕ) → IsVertex g v → IsVertex g' v
        live_g v t = ap (λ vs. member v (ids vs)) vg ∙ ap (member v) (ids-with_kinds f g.vertices) ∙ t

        live_h : (v : ℕ) → IsVertex h' v → IsVertex h v
        live_h v t = sym (ap (λ vs. member v (ids vs)) vh ∙ ap (member v) (ids-with_kinds f' h.vertices)) ∙ t

        later : (v : ℕ) → IsVertex h v → IsVertex h' v
        later v t = ap (λ vs. member v (ids vs)) vh ∙ ap (member v) (ids-with_kinds f' h.vertices) ∙ t

    -- a vertex goes, and kinds change
    changed_left : (f f' : ℕ → Kind → Kind) (u : ℕ) → IsVertex g u → g'.vertices ≡ with_kinds f (without u g.vertices) →
        h'.vertices ≡ with_kinds f' (without (to u) h.vertices) →
        ((p : ℕ) (k : Kind) → IsVertex g p → f' (to p) k ≡ f p k) →
        ((p q : ℕ) → p ≢ u → q ≢ u → joined g'.edges p q ≡ joined g.edges p q) →
        ((p q : ℕ) → p ≢ to u → q ≢ to u → joined h'.edges p q ≡ joined h.edges p q) → IsRenamed to back g' h'
    changed_left f f' u u_there vg vh same eg eh = record {
      there = λ v t. later (to v) (R.there v (earlier v t)) (other v t);
      there_back = λ v t. live_g (back v) (R.there_back v (live_h v t)) (λ e. other_h v t (sym (R.same_back v (live_h v t)) ∙ ap to e));
      same = λ v t. R.same v (earlier v t);
      same_back = λ v t. R.same_back v (live_h v t);
      kinds = λ v t. let old : IsVertex g v = earlier v t in
          ap (λ vs. kind_of vs (to v)) vh ∙ kind_of-with_kinds f' (to v) (without (to u) h.vertices) (left (to v) (to u) h.vertices (R.there v old) (other v t))
          ∙ ap (f' (to v)) (kind_of-without (to v) (to u) h.vertices (other v t))
          ∙ same v (kind_of h.vertices (to v)) old ∙ ap (f v) (R.kinds v old ∙ sym (kind_of-without v u g.vertices (not_u v t)))
          ∙ sym (ap (λ vs. kind_of vs v) vg ∙ kind_of-with_kinds f v (without u g.vertices) (left v u g.vertices old (not_u v t)));
      edges = λ v w t s. eh (to v) (to w) (other v t) (other w s) ∙ R.edges v w (earlier v t) (earlier w s) ∙ sym (eg v w (not_u v t) (not_u w s));
      inputs = ends h'.inputs h.inputs g.inputs fh.inputs R.inputs g'.inputs fg.inputs;
      outputs = ends h'.outputs h.outputs g.outputs fh.outputs R.outputs g'.outputs fg.outputs;
    }
      where
        left : (v w : ℕ) (vs : List Vertex) → member v (ids vs) ≡ true → v ≢ w → member v (ids (without w vs)) ≡ true
        left v w vs t n = ap (member v) (ids-without w vs) ∙ member-removed_other v w (ids vs) n ∙ t

        in_rest : (v : ℕ) → IsVertex g' v → member v (ids (without u g.vertices)) ≡ true
        in_rest v t = sym (ap (λ vs. member v (ids vs)) vg ∙ ap (member v) (ids-with_kinds f (without u g.vertices))) ∙ t

        in_rest_h : (v : ℕ) → IsVertex h' v → member v (ids (without (to u) h.vertices)) ≡ true
        in_rest_h v t = sym (ap (λ vs. member v (ids vs)) vh ∙ ap (member v) (ids-with_kinds f' (without (to u) h.vertices))) ∙ t

        not_u : (v : ℕ) → IsVertex g' v → v ≢ u
        not_u v t = apart_of_member v u (ids (without u g.vertices)) (in_rest v t) (member-without u g.vertices)

        other_h : (v : ℕ) → IsVertex h' v → v ≢ to u
        other_h v t = apart_of_member v (to u) (ids (without (to u) h.vertices)) (in_rest_h v t) (member-without (to u) h.vertices)

        earlier : (v : ℕ) → IsVertex g' v → IsVertex g v
        earlier v t = sym (ap (member v) (ids-without u g.vertices) ∙ member-removed_other v u (ids g.vertices) (not_u v t)) ∙ in_rest v t

        live_h : (v : ℕ) → IsVertex h' v → IsVertex h v
        live_h v t = sym (ap (member v) (ids-without (to u) h.vertices) ∙ member-removed_other v (to u) (ids h.vertices) (other_h v t)) ∙ in_rest_h v t

        other : (v : ℕ) → IsVertex g' v → to v ≢ to u
        other v t e = not_u v t (one_name v u (earlier v t) u_there e)

        live_g : (v : ℕ) → IsVertex g v → v ≢ u → IsVertex g' v
        live_g v t n = ap (λ vs. member v (ids vs)) vg ∙ ap (member v) (ids-with_kinds f (without u g.vertices)) ∙ left v u g.vertices t n

        later : (v : ℕ) → IsVertex h v → v ≢ to u → IsVertex h' v
        later v t n = ap (λ vs. member v (ids vs)) vh ∙ ap (member v) (ids-with_kinds f' (without (to u) h.vertices)) ∙ left v (to u) h.vertices t n

  -- ---- the steps
  complement : (u : ℕ) (g' : Graph) → IsLocalComplement g u g' → (h' : Graph) × IsLocalComplement h (to u) h' × IsRenamed to back g' h'
  complement u g' c = (complemented_graph h (to u), step, changed g' (complemented_graph h (to u)) c.frame step.frame _ _ c.vertices step.vertices kinds edges)
    where
      step : IsLocalComplement h (to u) (complemented_graph h (to u))
      step = after_step h (LocalComplement (to u)) wh (both _ _ (R.there u c.there) (interior_true h (to u) (inside u c.there c.interior)))

      kinds : (p : ℕ) (k : Kind) → IsVertex g p → complement_kind (to u) (joined h.edges (to u)) (to p) k ≡ complement_kind u (joined g.edges u) p k
      kinds p k t = ap₂ (λ a b. cond a (complemented k) (cond b (quarter_turned k) k)) (eqb-named p u t c.there) (R.edges u p c.there t)

      edges : (p q : ℕ) → IsVertex g p → IsVertex g q → joined (complemented_graph h (to u)).edges (to p) (to q) ≡ joined g'.edges p q
      edges p q t s =
          by_equal p q
          (λ _ e. ap (λ r. joined (complemented_graph h (to u)).edges (to p) (to r)) (sym e) ∙ no_loop (complemented_graph h (to u)) (to p) (step_kept h (LocalComplement (to u)) (complemented_graph h (to u)) wh step)
          ∙ sym (ap (joined g'.edges p) (sym e) ∙ no_loop g' p (step_kept g (LocalComplement u) g' wg c)))
          (λ _ n. step.edges (to p) (to q) (λ e. n (one_name p q t s e))
          ∙ ap₂ xor (R.edges p q t s) (ap₂ (λ a b. a && b) (R.edges u p c.there t) (R.edges u q c.there s)) ∙ sym (c.edges p q n))

  delete : (u : ℕ) (g' : Graph) → IsDelete g u g' → (h' : Graph) × IsDelete h (to u) h' × IsRenamed to back g' h'
  delete u g' c =
      (deleted_graph h (to u), step, changed_left g' (deleted_graph h (to u)) c.frame step.frame _ _ u there c.vertices step.vertices kinds c.edges step.edges)
    where
      there : IsVertex g u
      there = c.deletable.there

      may : allowed g (Delete u) ≡ true
      may = step_allowed g (Delete u) g' wg c

      off_XY_plane : not (is_XY (plane_of g u)) ≡ true
      off_XY_plane = and-right (member u (ids g.vertices)) (not (is_XY (plane_of g u)))
          (and-left (member u (ids g.vertices) && not (is_XY (plane_of g u))) (is_half_turns (phase_of g u)) may)

      of_half_turns : is_half_turns (phase_of g u) ≡ true
      of_half_turns = and-right (member u (ids g.vertices) && not (is_XY (plane_of g u))) (is_half_turns (phase_of g u)) may

      step : IsDelete h (to u) (deleted_graph h (to u))
      step = after_step h (Delete (to u)) wh
          (both (member (to u) (ids h.vertices) && not (is_XY (plane_of h (to u)))) (is_half_turns (phase_of h (to u)))
          (both (member (to u) (ids h.vertices)) (not (is_XY (plane_of h (to u)))) (R.there u there) (ap (λ p. not (is_XY p)) (plane u there) ∙ off_XY_plane))
          (ap is_half_turns (phase u there) ∙ of_half_turns))

      kinds : (p : ℕ) (k : Kind) → IsVertex g p → delete_kind (phase_of h (to u)) (joined h.edges (to u)) (to p) k ≡ delete_kind (phase_of g u) (joined g.edges u) p k
      kinds p k t = ap₂ (λ j near. cond (eqb j half_turn && near) (half_turned k) k) (phase u there) (R.edges u p there t)

  pivot : (u v : ℕ) (g' : Graph) → IsPivot g u v g' → (h' : Graph) × IsPivot h (to u) (to v) h' × IsRenamed to back g' h'
  pivot u v g' c = (after_h, step, changed g' after_h c.frame step.frame _ _ c.vertices step.vertices kinds edges)
    where
      after_h : Graph
      after_h = pivoted_graph h (to u) (to v)

      step : IsPivot h (to u) (to v) after_h
      step = after_step h (Pivot (to u) (to v)) wh
          (both _ _ (both _ _ (R.there u c.there) (R.there v c.there_too))
          (both _ _ (both _ _ (interior_true h (to u) (inside u c.there c.interior)) (interior_true h (to v) (inside v c.there_too c.interior_too)))
          (R.edges u v c.there c.there_too ∙ c.adjacent)))

      kinds : (p : ℕ) (k : Kind) → IsVertex g p → pivot_kind (to u) (to v) (joined h.edges (to u)) (joined h.edges (to v)) (to p) k
          ≡ pivot_kind u v (joined g.edges u) (joined g.edges v) p k
      kinds p k t =
          ap₂ (λ a b. cond a (pivoted k) (cond b (half_turned k) k))
          (ap₂ (λ a b. a || b) (eqb-named p u t c.there) (eqb-named p v t c.there_too))
          (ap₂ (λ a b. a && b) (R.edges u p c.there t) (R.edges v p c.there_too t))

      live : ℕ → ℕ → Bool
      live p q = member p (ids g.vertices) && member q (ids g.vertices)

      new_names : ℕ → ℕ → Bool
      new_names p q = live p q && joined after_h.edges (to p) (to q)

      old_names : ℕ → ℕ → Bool
      old_names p q = live p q && joined g'.edges p q

      away : (p q : ℕ) → IsVertex g p → IsVertex g q → p ≢ q → to p ≢ to q
      away p q t s n e = n (one_name p q t s e)

      together : (p q : ℕ) → (IsVertex g p → IsVertex g q → joined after_h.edges (to p) (to q) ≡ joined g'.edges p q) → new_names p q ≡ old_names p q
      together p q e =
          under (live p q) (joined after_h.edges (to p) (to q)) (joined g'.edges p q)
          (λ t. e (and-left (member p (ids g.vertices)) (member q (ids g.vertices)) t) (and-right (member p (ids g.vertices)) (member q (ids g.vertices)) t))

      all : (p q : ℕ) → p ≢ q → new_names p q ≡ old_names p q
      all = agree u v new_names old_names
          (λ p q. ap₂ (λ a b. a && b) (and_comm (member p (ids g.vertices)) (member q (ids g.vertices))) (joined_comm after_h.edges (to p) (to q)))
          (λ p q. ap₂ (λ a b. a && b) (and_comm (member p (ids g.vertices)) (member q (ids g.vertices))) (joined_comm g'.edges p q))
          (together u v (λ t s. step.still_adjacent ∙ sym c.still_adjacent))
          (λ q n m. together u q (λ t s. step.of_u (to q) (away q u s t n) (away q v s c.there_too m) ∙ R.edges v q c.there_too s ∙ sym (c.of_u q n m)))
          (λ q n m. together v q (λ t s. step.of_v (to q) (away q u s c.there n) (away q v s t m) ∙ R.edges u q c.there s ∙ sym (c.of_v q n m)))
          (λ p q n m n' m' d. together p q (λ t s.
          step.between (to p) (to q) (away p u t c.there n) (away p v t c.there_too m) (away q u s c.there n') (away q v s c.there_too m') (away p q t s d)
          ∙ ap₂ xor (R.edges p q t s)
          (ap₂ xor (ap₂ (λ a b. a && b) (R.edges u p c.there t) (R.edges v q c.there_too s)) (ap₂ (λ a b. a && b) (R.edges v p c.there_too t) (R.edges u q c.there s)))
          ∙ sym (c.between p q n m n' m' d)))

      edges : (p q : ℕ) → IsVertex g p → IsVertex g q → joined after_h.edges (to p) (to q) ≡ joined g'.edges p q
      edges p q t s =
          by_equal p q
          (λ _ e. ap (λ r. joined after_h.edges (to p) (to r)) (sym e) ∙ no_loop after_h (to p) (step_kept h (Pivot (to u) (to v)) after_h wh step)
          ∙ sym (ap (joined g'.edges p) (sym e) ∙ no_loop g' p (step_kept g (Pivot u v) g' wg c)))
          (λ _ n. sym (ap₂ (λ a b. (a && b) && joined after_h.edges (to p) (to q)) t s) ∙ all p q n ∙ ap₂ (λ a b. (a && b) && joined g'.edges p q) t s)

  -- h without a vertex, where kinds change
  left_graph : (ℕ → Kind → Kind) → ℕ → Graph
  left_graph f u = adjacent_graph h (with_kinds f (without u h.vertices)) (joined h.edges)

  left_frame : (f : ℕ → Kind → Kind) (u : ℕ) → KeepsEnds h (left_graph f u)
  unfolding left_graph
  left_frame f u = record { ordered = OrderedEdges-edges_of (joined h.edges) _ (rising_without h wh f u); inputs = refl; outputs = refl }

  left_edges : (f : ℕ → Kind → Kind) (u p q : ℕ) → p ≢ u → q ≢ u → joined (left_graph f u).edges p q ≡ joined h.edges p q
  unfolding left_graph
  left_edges f u =
      removal_edges h wh u (ids (with_kinds f (without u h.vertices))) (ids-with_kinds f (without u h.vertices) ∙ ids-without u h.vertices) (rising_without h wh f u)

  drop_lone : (u : ℕ) (g' : Graph) → IsDropLone g u g' → (h' : Graph) × IsDropLone h (to u) h' × IsRenamed to back g' h'
  drop_lone u g' c = (
    dropped_graph h (to u),
    step,
    changed_left g' (dropped_graph h (to u)) c.frame step.frame (λ p k. k) (λ p k. k) u c.there
        (c.vertices ∙ sym (with_kinds-identity (without u g.vertices))) (sym (with_kinds-identity (without (to u) h.vertices))) (λ p k t. refl) c.edges step.edges,
  )
    where
      step : IsDropLone h (to u) (dropped_graph h (to u))
      step = record {
        there = R.there u c.there;
        plane = plane u c.there ∙ c.plane;
        lone = row (λ p. false) u c.there (λ p t. c.lone p) (λ p f. refl);
        vertices = refl;
        edges = removal_edges h wh (to u) (ids (without (to u) h.vertices)) (ids-without (to u) h.vertices) (rising_plain h wh (to u));
        frame = record { ordered = OrderedEdges-edges_of (joined h.edges) _ (rising_plain h wh (to u)); inputs = refl; outputs = refl };
      }

  fuse_into : (u : ℕ) (g' : Graph) → IsFuseInto g u g' → (h' : Graph) × IsFuseInto h (to u) h' × IsRenamed to back g' h'
  unfolding left_graph
  fuse_into u g' c =
      (left_graph change (to u), step, changed_left g' (left_graph change (to u)) c.frame (left_frame change (to u)) _ change u c.there c.vertices refl kinds c.edges (left_edges change (to u)))
    where
      change : ℕ → Kind → Kind
      change = fuse_kind (to c.into) (phase_of h (to u))

      step : IsFuseInto h (to u) (left_graph change (to u))
      step = record {
        into = to c.into;
        there = R.there u c.there;
        plane = plane u c.there ∙ c.plane;
        into_there = R.there c.into c.into_there;
        into_plane = plane c.into c.into_there ∙ c.into_plane;
        only_neighbour = row (λ p. eqb p (to c.into)) u c.there (λ p t. c.only_neighbour p ∙ sym (eqb-named p c.into t c.into_there))
            (λ p f. ne_eqb p (to c.into) (λ e. true≢false (sym (R.there c.into c.into_there) ∙ ap (λ r. member r (ids h.vertices)) (sym e) ∙ f)));
        vertices = refl;
        edges = left_edges change (to u);
        frame = left_frame change (to u);
      }

      kinds : (p : ℕ) (k : Kind) → IsVertex g p → change (to p) k ≡ fuse_kind c.into (phase_of g u) p k
      kinds p k t = ap₂ (λ b j. cond b (with_phase_added j k) k) (eqb-named p c.into t c.into_there) (phase u c.there)

  pub into-named : (u : ℕ) (g' : Graph) → (c : IsFuseInto g u g') → neighbours h (to u) ≡ to c.into ∷ []
  unfolding fuse_into
  into-named u g' c = neighbours_into h (to u) (fuse_into u g' c).0 wh (fuse_into u g' c).1

  fuse_twin : (u v : ℕ) (g' : Graph) → IsFuseTwin g u v g' → (h' : Graph) × IsFuseTwin h (to u) (to v) h' × IsRenamed to back g' h'
  unfolding left_graph
  fuse_twin u v g' c =
      (left_graph change (to v), step, changed_left g' (left_graph change (to v)) c.frame (left_frame change (to v)) _ change v c.there_too c.vertices refl kinds c.edges (left_edges change (to v)))
    where
      change : ℕ → Kind → Kind
      change = fuse_kind (to u) (phase_of h (to v))

      step : IsFuseTwin h (to u) (to v) (left_graph change (to v))
      step = record {
        there = R.there u c.there;
        there_too = R.there v c.there_too;
        different = λ e. c.different (one_name u v c.there c.there_too e);
        plane = plane u c.there ∙ c.plane;
        plane_too = plane v c.there_too ∙ c.plane_too;
        not_adjacent = R.edges u v c.there c.there_too ∙ c.not_adjacent;
        equal_neighbours = row (joined h.edges (to v)) u c.there (λ p t. c.equal_neighbours p ∙ sym (R.edges v p c.there_too t)) (λ p f. absent_right h wh (to v) p f);
        vertices = refl;
        edges = left_edges change (to v);
        frame = left_frame change (to v);
      }

      kinds : (p : ℕ) (k : Kind) → IsVertex g p → change (to p) k ≡ fuse_kind u (phase_of g v) p k
      kinds p k t = ap₂ (λ b j. cond b (with_phase_added j k) k) (eqb-named p u t c.there) (phase v c.there_too)

  pub step_renamed : (s : Step) (g' : Graph) → is_split s ≡ false → IsStep g s g' → (h' : Graph) × IsStep h (renamed_step to s) h' × IsRenamed to back g' h'
  step_renamed (LocalComplement u) g' none c = complement u g' c
  step_renamed (Delete u) g' none c = delete u g' c
  step_renamed (Pivot u v) g' none c = pivot u v g' c
  step_renamed (SplitInput b) g' none c = absurd (true≢false none)
  step_renamed (SplitOutput b) g' none c = absurd (true≢false none)
  step_renamed (DropLone u) g' none c = drop_lone u g' c
  step_renamed (FuseInto u) g' none c = fuse_into u g' c
  step_renamed (FuseTwin u v) g' none c = fuse_twin u v g' c

pub run_renamed : (to back : ℕ → ℕ) (g h : Graph) (steps : List Step) (g' : Graph) → WellFormed g → WellFormed h → SplitNothing steps → IsRenamed to back g h → IsRun g steps g' →
    (h' : Graph) × IsRun h (map (renamed_step to) steps) h' × IsRenamed to back g' h'
run_renamed to back g h [] g' wg wh none r same = (h, refl, subst (λ k. IsRenamed to back k h) same r)
run_renamed to back g h (s ∷ steps) g' wg wh none r run =
    let first = step_renamed to back g h wg wh r s run.0 (not-true (is_split s) (and-left _ _ none)) run.1 in
    let later = run_renamed to back run.0 first.0 steps g' (step_kept g s run.0 wg run.1) (step_kept h (renamed_step to s) first.0 wh first.1) (and-right _ _ none) first.2 run.2 in
    (later.0, (first.0, first.1, later.1), later.2)
