-- Single changes keep well-formedness.
use Rattle.std.proofs.Common.{◌≡◌, refl, sym, ◌∙◌, ap, ap₂, subst, true≢false, ℕ, zero, suc, ◌<◌, Bool, true, false, not, ◌||◌, eqb, ltb, List, [], ◌∷◌, ◌++◌, set, remove, slice_get, Some, eq-eqb}
use Rattle.std.specs.List.{list_all}
use Rattle.zx_model.specs.Phase.{turn}
use Rattle.zx_model.specs.Bits.{member}
use Rattle.zx_calculus.specs.Graph.{XY, Kind, Vertex, End, Graph, ids, kind_of, plane_of, is_XY, end_vertices, in_order, different, insert_vertex, with_kinds, WellFormed, OrderedEnds, OrderedEdges, Interior, is_interior}
use Rattle.zx_calculus.specs.Splits.{move_end}
use Rattle.zx_calculus.specs.Edits.{IsToggle, IsRemoval, at_vertex}
use Rattle.zx_calculus.proofs.Ids.{by_test, by_equal, and-left, and-right, or-left, or-right, not-true, member-there, member-different, eqb_comm}
use Rattle.zx_calculus.proofs.Vertices.{with_kinds-identity, ids-with_kinds, kind_of-with_kinds, all_below_a_turn, member-insert}
use Rattle.zx_calculus.proofs.Splitting.{plane_XY, interior_of, all_at}
use Rattle.zx_calculus.proofs.Kept.{both, different-all, in_order-insert, insert-below, ends_insert, kept_kinds, kept_removal}
use Rattle.zx_calculus.proofs.Splits.{move_end-absent}
use Rattle.zx_calculus.proofs.Extensionality.{vertices_ext}
use Rattle.zx_calculus.proofs.Booleans.{or-true}

pub toggle_kept : (g : Graph) (u v : ℕ) (h : Graph) → WellFormed g → IsToggle g u v h → WellFormed h
toggle_kept g u v h w c =
    record {
      vertices_rising = ap (λ vs. in_order ltb (ids vs)) c.vertices ∙ w.vertices_rising;
      phases_below_a_turn = ap all_below_a_turn c.vertices ∙ w.phases_below_a_turn;
      edges = c.frame.ordered;
      inputs = rw (c.vertices, c.frame.inputs) w.inputs;
      outputs = rw (c.vertices, c.frame.outputs) w.outputs;
    }

pub removal_kept : (g : Graph) (u : ℕ) (h : Graph) → WellFormed g → Interior g u → IsRemoval g u h → WellFormed h
removal_kept g u h w interior c =
    kept_removal g u (λ p k. k) h w interior (λ p k t. t) (λ p k t. t) (c.vertices ∙ sym (with_kinds-identity _)) c.frame

pub list_all-weaker : {A : Type 0} (p q : A → Bool) (xs : List A) → ((x : A) → p x ≡ true → q x ≡ true) → list_all p xs ≡ true → list_all q xs ≡ true
list_all-weaker p q [] h all = refl
list_all-weaker p q (x ∷ xs) h all = both _ _ (h x (and-left _ _ all)) (list_all-weaker p q xs h (and-right _ _ all))

pub insert_kept : (g : Graph) (n : Vertex) → WellFormed g → member n.id (ids g.vertices) ≡ false → n.kind.phase < turn → WellFormed (record g { vertices = insert_vertex n g.vertices })
insert_kept g n w fresh below =
    record {
      vertices_rising = in_order-insert n g.vertices fresh w.vertices_rising;
      phases_below_a_turn = insert-below n g.vertices below w.phases_below_a_turn;
      edges = record {
        lower_first = w.edges.lower_first;
        rising = w.edges.rising;
        lower_there = list_all-weaker _ _ g.edges (λ e. there e.lower) w.edges.lower_there;
        higher_there = list_all-weaker _ _ g.edges (λ e. there e.higher) w.edges.higher_there;
      };
      inputs = ends_insert n g.vertices g.inputs fresh w.inputs;
      outputs = ends_insert n g.vertices g.outputs fresh w.outputs;
    }
  where
    there : (p : ℕ) → member p (ids g.vertices) ≡ true → member p (ids (insert_vertex n g.vertices)) ≡ true
    there p t = member-insert p n g.vertices ∙ member-there p n.id (ids g.vertices) t

-- one more end
places_all-push : (q : ℕ → Bool) (ends : List End) (e : End) → list_all q (end_vertices ends) ≡ true → q e.vertex ≡ true → list_all q (end_vertices (ends ++ e ∷ [])) ≡ true
places_all-push q [] e all here = both _ _ here refl
places_all-push q (d ∷ ds) e all here = both _ _ (and-left _ _ all) (places_all-push q ds e (and-right _ _ all) here)

-- what two different numbers pass
different-from : (x y : ℕ) → eqb y x ≡ false → different x y ≡ true
different-from x y f = ap not (eqb_comm x y ∙ f)

one_each-push : (ends : List End) (e : End) → in_order different (end_vertices ends) ≡ true → member e.vertex (end_vertices ends) ≡ false → in_order different (end_vertices (ends ++ e ∷ [])) ≡ true
one_each-push [] e o fresh = refl
one_each-push (d ∷ ds) e o fresh =
    both _ _ (places_all-push (different d.vertex) ds e (and-left _ _ o) (different-from d.vertex e.vertex (or-left _ _ fresh))) (one_each-push ds e (and-right _ _ o) (or-right _ _ fresh))

pub ends_pushed : (vs : List Vertex) (ends : List End) (e : End) → OrderedEnds vs ends → member e.vertex (ids vs) ≡ true → is_XY (kind_of vs e.vertex).plane ≡ true → member e.vertex (end_vertices ends) ≡ false → OrderedEnds vs (ends ++ e ∷ [])
ends_pushed vs ends e o there plane fresh =
    record {
      one_each = one_each-push ends e o.one_each fresh;
      there = places_all-push _ ends e o.there there;
      at_XY = places_all-push _ ends e o.at_XY plane;
    }

-- an end in the place of another
places_all-set : (q : ℕ → Bool) (ends : List End) (i : ℕ) (e : End) → list_all q (end_vertices ends) ≡ true → q e.vertex ≡ true → list_all q (end_vertices (set ends i e)) ≡ true
places_all-set q [] i e all here = refl
places_all-set q (d ∷ ds) zero e all here = both _ _ here (and-right _ _ all)
places_all-set q (d ∷ ds) (suc i) e all here = both _ _ (and-left _ _ all) (places_all-set q ds i e (and-right _ _ all) here)

one_each-set : (ends : List End) (i : ℕ) (e : End) → in_order different (end_vertices ends) ≡ true → member e.vertex (end_vertices (remove ends i)) ≡ false → in_order different (end_vertices (set ends i e)) ≡ true
one_each-set [] i e o fresh = refl
one_each-set (d ∷ ds) zero e o fresh = both _ _ (different-all e.vertex (end_vertices ds) fresh) (and-right _ _ o)
one_each-set (d ∷ ds) (suc i) e o fresh =
    both _ _ (places_all-set (different d.vertex) ds i e (and-left _ _ o) (different-from d.vertex e.vertex (or-left _ _ fresh))) (one_each-set ds i e (and-right _ _ o) (or-right _ _ fresh))

pub ends_set : (vs : List Vertex) (ends : List End) (i : ℕ) (e : End) → OrderedEnds vs ends → member e.vertex (ids vs) ≡ true → is_XY (kind_of vs e.vertex).plane ≡ true → member e.vertex (end_vertices (remove ends i)) ≡ false → OrderedEnds vs (set ends i e)
ends_set vs ends i e o there plane fresh =
    record {
      one_each = one_each-set ends i e o.one_each fresh;
      there = places_all-set _ ends i e o.there there;
      at_XY = places_all-set _ ends i e o.at_XY plane;
    }

-- another plane and phase at one vertex, which stays XY where it has an end
pub kind_kept : (g : Graph) (v : ℕ) (kind : Kind) → WellFormed g → kind.phase < turn → (is_interior g v ≡ false → kind.plane ≡ XY) → WellFormed (record g { vertices = with_kinds (at_vertex v (λ _. kind)) g.vertices })
kind_kept g v kind w below at_boundary =
    kept_kinds g (at_vertex v (λ _. kind)) (record g { vertices = with_kinds (at_vertex v (λ _. kind)) g.vertices }) w
    (λ p k lt. by_test (eqb p v) (λ t. rw t below) (λ f. rw f lt))
    (λ p t k xy. by_equal p v (λ s e. rw s (stays (ap (λ b. not (b || member v (end_vertices g.outputs))) (ap (λ q. member q (end_vertices g.inputs)) (sym e) ∙ t)))) (λ f n. rw f xy))
    (λ p t k xy. by_equal p v
    (λ s e. rw s (stays (ap (λ b. not (member v (end_vertices g.inputs) || b)) (ap (λ q. member q (end_vertices g.outputs)) (sym e) ∙ t) ∙ ap not (or-true (member v (end_vertices g.inputs))))))
    (λ f n. rw f xy))
    refl (record { ordered = subst (λ (vs : List ℕ). OrderedEdges vs g.edges) (sym (ids-with_kinds (at_vertex v (λ _. kind)) g.vertices)) w.edges; inputs = refl; outputs = refl })
  where
    stays : is_interior g v ≡ false → is_XY kind.plane ≡ true
    stays h = ap is_XY (at_boundary h)

-- what is made of the kind at a vertex, as a change of it
pub with_kinds-at : (v : ℕ) (f : Kind → Kind) (vs : List Vertex) → in_order ltb (ids vs) ≡ true → with_kinds (at_vertex v (λ _. f (kind_of vs v))) vs ≡ with_kinds (at_vertex v f) vs
with_kinds-at v f vs rising =
    vertices_ext _ _ (rises (at_vertex v (λ _. f (kind_of vs v)))) (rises (at_vertex v f)) (λ p. ap (member p) (ids-with_kinds _ vs ∙ sym (ids-with_kinds _ vs)))
    (λ p t. let there : member p (ids vs) ≡ true = ap (member p) (sym (ids-with_kinds _ vs)) ∙ t in
    kind_of-with_kinds _ p vs there ∙ by_equal p v (λ s e. rw s (ap (λ q. f (kind_of vs q)) (sym e))) (λ s n. rw s refl) ∙ sym (kind_of-with_kinds _ p vs there))
  where
    rises : (g : ℕ → Kind → Kind) → in_order ltb (ids (with_kinds g vs)) ≡ true
    rises g = ap (in_order ltb) (ids-with_kinds g vs) ∙ rising

-- other ends
pub inputs_kept : (g : Graph) (inputs : List End) → WellFormed g → OrderedEnds g.vertices inputs → WellFormed (record g { inputs = inputs })
inputs_kept g inputs w ordered =
    record { vertices_rising = w.vertices_rising; phases_below_a_turn = w.phases_below_a_turn; edges = w.edges; inputs = ordered; outputs = w.outputs }

pub outputs_kept : (g : Graph) (outputs : List End) → WellFormed g → OrderedEnds g.vertices outputs → WellFormed (record g { outputs = outputs })
outputs_kept g outputs w ordered =
    record { vertices_rising = w.vertices_rising; phases_below_a_turn = w.phases_below_a_turn; edges = w.edges; inputs = w.inputs; outputs = ordered }

-- a vertex with an end is XY
pub boundary_XY : (g : Graph) (v : ℕ) → WellFormed g → is_interior g v ≡ false → plane_of g v ≡ XY
boundary_XY g v w at_boundary =
    by_test (is_XY (plane_of g v)) (λ t. plane_XY (plane_of g v) t)
    (λ f. let interior = interior_of g v w f in
    absurd (true≢false (sym (ap₂ (λ a b. not (a || b)) interior.no_input interior.no_output) ∙ at_boundary)))

-- where at most one end stands at a vertex, the end that moves away from it is the one at its place
pub set-move_end : (ends : List End) (i : ℕ) (e : End) (new : ℕ) → in_order different (end_vertices ends) ≡ true → slice_get ends i ≡ Some e → set ends i (record { vertex = new; hadamard = not e.hadamard }) ≡ move_end e.vertex new ends
set-move_end [] i e new o found = cc
set-move_end (d ∷ ds) zero e new o found =
    let same : d ≡ e = cc in
    let alone : member e.vertex (end_vertices ds) ≡ false = ap (λ x. member x.vertex (end_vertices ds)) (sym same) ∙ member-different d.vertex (end_vertices ds) (and-left _ _ o) in
    rw (eq-eqb e.vertex d.vertex (ap (λ x. x.vertex) (sym same)))
    (ap₂ (λ x xs. record { vertex = new; hadamard = not x.hadamard } ∷ xs) (sym same) (sym (move_end-absent e.vertex new ds alone)))
set-move_end (d ∷ ds) (suc i) e new o found =
    let apart : eqb e.vertex d.vertex ≡ false = eqb_comm e.vertex d.vertex ∙ not-true _ (all_at (different d.vertex) (end_vertices ds) e.vertex (and-left _ _ o) (member-found ds i e found)) in
    rw apart (ap (λ xs. d ∷ xs) (set-move_end ds i e new (and-right _ _ o) found))
  where
    member-found : (es : List End) (j : ℕ) (e : End) → slice_get es j ≡ Some e → member e.vertex (end_vertices es) ≡ true
    member-found [] j e h = cc
    member-found (x ∷ xs) zero e h = let same : x ≡ e = cc in ap (λ b. b || member e.vertex (end_vertices xs)) (eq-eqb e.vertex x.vertex (ap (λ y. y.vertex) (sym same)))
    member-found (x ∷ xs) (suc j) e h = member-there e.vertex x.vertex (end_vertices xs) (member-found xs j e h)
