-- What graphs have in common that differ in their names alone.
use Rattle.std.proofs.Common.{◌≡◌, ◌≢◌, ◌⊎◌, refl, sym, ◌∙◌, ap, ap₂, subst, true≢false, ℕ, suc, ◌+◌, ◌≤◌, Bool, true, cond, ◌||◌, ne_eqb, List, [], ◌∷◌, length, filter}
use Rattle.std.specs.List.{list_all}
use Rattle.zx_model.specs.Bits.{member, one_if}
use Rattle.zx_model.specs.Phase.{is_odd, IsOdd}
use Rattle.zx_calculus.specs.Graph.{XY, YZ, Vertex, End, Graph, ids, joined, kind_of, plane_of, neighbours, end_vertices, without, IsVertex, Distinct, WellFormed}
use Rattle.zx_calculus.specs.Counts.{odd_phases}
use Rattle.zx_calculus.specs.Reduced.{IsReduced}
use Rattle.zx_calculus.proofs.CountLemmas.{Test, count, count-cons, count_front, member-without_other}
use Rattle.zx_calculus.proofs.Ids.{by_test, and-left, and-right, eqb-self, member-here, member-there, apart_of_member}
use Rattle.zx_calculus.proofs.Results.{filter_same}
use Rattle.zx_calculus.proofs.Splitting.{distinct, Distinct-without, member-without}
use Rattle.zx_calculus.proofs.Toggling.{member-neighbours}
use Rattle.zx_calculus.proofs.Programs.{absent_right}
use Rattle.zx_calculus.proofs.Vertices.{kind_of-without}
use Rattle.growing_laws.specs.Renaming.{renamed_ends, IsRenamed}
use Rattle.growing_laws.proofs.Renamed.{inside, plane, phase}

-- ---- the names turned round
ends-back : (to back : ℕ → ℕ) (live : ℕ → Bool) (es : List End) → list_all live (end_vertices es) ≡ true → ((v : ℕ) → live v ≡ true → back (to v) ≡ v) →
    es ≡ renamed_ends back (renamed_ends to es)
ends-back to back live [] all same = refl
ends-back to back live (e ∷ es) all same =
    ap₂ (λ v ds. record { vertex = v; hadamard = e.hadamard } ∷ ds) (sym (same e.vertex (and-left _ _ all))) (ends-back to back live es (and-right _ _ all) same)

ends-itself : (es : List End) → es ≡ renamed_ends (λ v. v) es
ends-itself [] = refl
ends-itself (e ∷ es) = ap (λ ds. e ∷ ds) (ends-itself es)

pub named_itself : (g : Graph) → IsRenamed (λ v. v) (λ v. v) g g
named_itself g = record {
  there = λ v t. t;
  there_back = λ v t. t;
  same = λ v t. refl;
  same_back = λ v t. refl;
  kinds = λ v t. refl;
  edges = λ v w t s. refl;
  inputs = ends-itself g.inputs;
  outputs = ends-itself g.outputs;
}

pub named_back : (to back : ℕ → ℕ) (g h : Graph) → WellFormed g → IsRenamed to back g h → IsRenamed back to h g
named_back to back g h w R = record {
  there = R.there_back;
  there_back = R.there;
  same = R.same_back;
  same_back = R.same;
  kinds = λ v t. sym (R.kinds (back v) (R.there_back v t)) ∙ ap (kind_of h.vertices) (R.same_back v t);
  edges = λ v u t s. sym (R.edges (back v) (back u) (R.there_back v t) (R.there_back u s)) ∙ ap₂ (joined h.edges) (R.same_back v t) (R.same_back u s);
  inputs = ends-back to back (λ v. member v (ids g.vertices)) g.inputs w.inputs.there R.same ∙ ap (renamed_ends back) (sym R.inputs);
  outputs = ends-back to back (λ v. member v (ids g.vertices)) g.outputs w.outputs.there R.same ∙ ap (renamed_ends back) (sym R.outputs);
}

-- ---- counts
none_left : (t t' : Test) (back : ℕ → ℕ) (ws : List Vertex) → ((v : ℕ) → member v (ids ws) ≡ true → member (back v) [] ≡ true) → count t' ws ≡ count t []
none_left t t' back [] there = refl
none_left t t' back (w ∷ ws) there = absurd (true≢false (sym (there w.id (member-here w.id (ids ws)))))

count-renamed : (t t' : Test) (to back : ℕ → ℕ) (vs ws : List Vertex) → Distinct (ids vs) → Distinct (ids ws) →
    ((v : ℕ) → member v (ids vs) ≡ true → member (to v) (ids ws) ≡ true) → ((v : ℕ) → member v (ids ws) ≡ true → member (back v) (ids vs) ≡ true) →
    ((v : ℕ) → member v (ids vs) ≡ true → back (to v) ≡ v) → ((v : ℕ) → member v (ids ws) ≡ true → to (back v) ≡ v) →
    ((v : ℕ) → member v (ids vs) ≡ true → t' (to v) (kind_of ws (to v)) ≡ t v (kind_of vs v)) → count t' ws ≡ count t vs
count-renamed t t' to back [] ws d e there there_back same same_back kinds = none_left t t' back ws there_back
count-renamed t t' to back (x ∷ vs) ws d e there there_back same same_back kinds =
    count_front t' (to x.id) ws e (there x.id (member-here x.id (ids vs)))
    ∙ ap₂ (λ b n. one_if b + n)
    (kinds x.id (member-here x.id (ids vs)) ∙ ap (λ c. t x.id (cond c x.kind (kind_of vs x.id))) (eqb-self x.id))
    (count-renamed t t' to back vs (without (to x.id) ws) d.1 (Distinct-without (to x.id) ws e)
    (λ v m. member-without_other (to v) (to x.id) ws (away v m) ∙ there v (member-there v x.id (ids vs) m))
    left_back
    (λ v m. same v (member-there v x.id (ids vs) m))
    (λ v m. same_back v (earlier v m))
    (λ v m. ap (t' (to v)) (kind_of-without (to v) (to x.id) ws (away v m)) ∙ kinds v (member-there v x.id (ids vs) m)
    ∙ ap (λ c. t v (cond c x.kind (kind_of vs v))) (ne_eqb v x.id (apart_of_member v x.id (ids vs) m d.0))))
    ∙ sym (count-cons t x vs)
  where
    away : (v : ℕ) → member v (ids vs) ≡ true → to v ≢ to x.id
    away v m f =
        apart_of_member v x.id (ids vs) m d.0
        (sym (same v (member-there v x.id (ids vs) m)) ∙ ap back f ∙ same x.id (member-here x.id (ids vs)))

    not_x : (v : ℕ) → member v (ids (without (to x.id) ws)) ≡ true → v ≢ to x.id
    not_x v m = apart_of_member v (to x.id) (ids (without (to x.id) ws)) m (member-without (to x.id) ws)

    earlier : (v : ℕ) → member v (ids (without (to x.id) ws)) ≡ true → member v (ids ws) ≡ true
    earlier v m = sym (member-without_other v (to x.id) ws (not_x v m)) ∙ m

    left_back : (v : ℕ) → member v (ids (without (to x.id) ws)) ≡ true → member (back v) (ids vs) ≡ true
    left_back v m =
        ap (λ b. b || member (back v) (ids vs))
        (sym (ne_eqb (back v) x.id (λ f. not_x v m (sym (same_back v (earlier v m)) ∙ ap to f)))) ∙ there_back v (earlier v m)

length-filter_ids : (near : ℕ → Bool) (vs : List Vertex) → length (filter near (ids vs)) ≡ count (λ p k. near p) vs
length-filter_ids near [] = refl
length-filter_ids near (v ∷ vs) =
    by_test (near v.id) (λ t. rw t (ap (λ n. suc n) (length-filter_ids near vs))) (λ f. rw f (length-filter_ids near vs))

module _ (to back : ℕ → ℕ) (g h : Graph) (wg : WellFormed g) (wh : WellFormed h) (R : IsRenamed to back g h) where
  count-named : (t t' : Test) → ((v : ℕ) → IsVertex g v → t' (to v) (kind_of h.vertices (to v)) ≡ t v (kind_of g.vertices v)) → count t' h.vertices ≡ count t g.vertices
  count-named t t' kinds =
      count-renamed t t' to back g.vertices h.vertices (distinct g wg) (distinct h wh) R.there R.there_back R.same R.same_back kinds

  pub odd_named : odd_phases h ≡ odd_phases g
  odd_named = count-named (λ p k. is_odd k.phase) (λ p k. is_odd k.phase) (λ v t. ap is_odd (phase to back g h wg wh R v t))

  legs-named : (u : ℕ) → IsVertex g u → length (neighbours h (to u)) ≡ length (neighbours g u)
  legs-named u t =
      length-filter_ids (joined h.edges (to u)) h.vertices
      ∙ count-named (λ p k. joined g.edges u p) (λ p k. joined h.edges (to u) p) (λ v s. R.edges u v t s)
      ∙ sym (length-filter_ids (joined g.edges u) g.vertices)

  R' : IsRenamed back to h g
  R' = named_back to back g h wg R

  old_plane : (u : ℕ) → IsVertex h u → plane_of g (back u) ≡ plane_of h u
  old_plane u t = plane back to h g wh wg R' u t

  -- neighbours of u and v in g are equal where they are in h
  same_row : (u v : ℕ) → IsVertex h u → IsVertex h v → neighbours h u ≡ neighbours h v → (p : ℕ) → joined g.edges (back u) p ≡ joined g.edges (back v) p
  same_row u v t s e p =
      by_test (member p (ids g.vertices))
      (λ m. old u t p m ∙ sym (member-neighbours h u (to p) wh) ∙ ap (member (to p)) e ∙ member-neighbours h v (to p) wh ∙ sym (old v s p m))
      (λ f. absent_right g wg (back u) p f ∙ sym (absent_right g wg (back v) p f))
    where
      old : (w : ℕ) → IsVertex h w → (p : ℕ) → IsVertex g p → joined g.edges (back w) p ≡ joined h.edges w (to p)
      old w t p m = sym (R.edges (back w) p (R.there_back w t) m) ∙ ap (λ x. joined h.edges x (to p)) (R.same_back w t)

  pub reduced_named : IsReduced g → IsReduced h
  reduced_named r = record {
    odd = λ u t i. subst IsOdd (phase back to h g wh wg R' u t) (r.odd (back u) (R.there_back u t) (inside back to h g wh wg R' u t i));
    planes = λ u t i. subst (λ x. (x ≡ XY) ⊎ (x ≡ YZ)) (old_plane u t) (r.planes (back u) (R.there_back u t) (inside back to h g wh wg R' u t i));
    apart = λ u v t s e f. sym ((named_back to back g h wg R).edges u v t s)
        ∙ r.apart (back u) (back v) (R.there_back u t) (R.there_back v s) (old_plane u t ∙ e) (old_plane v s ∙ f);
    two_neighbours = λ u t e. subst (λ n. 2 ≤ n)
        (sym (legs-named (back u) (R.there_back u t)) ∙ ap (λ x. length (neighbours h x)) (R.same_back u t))
        (r.two_neighbours (back u) (R.there_back u t) (old_plane u t ∙ e));
    no_twins = λ u v t s n e f same. r.no_twins (back u) (back v) (R.there_back u t) (R.there_back v s)
        (λ q. n (sym (R.same_back u t) ∙ ap to q ∙ R.same_back v s)) (old_plane u t ∙ e) (old_plane v s ∙ f)
        (filter_same (joined g.edges (back u)) (joined g.edges (back v)) (ids g.vertices) (same_row u v t s same));
  }
