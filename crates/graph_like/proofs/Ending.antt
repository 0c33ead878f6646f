-- Ends that are added one after the other: the first at a vertex stays there, each further one goes to a new vertex.
use Rattle.std.proofs.Common.{◌≡◌, refl, sym, ◌∙◌, ap, ap₂, subst, ℕ, suc, zero as nought, ◌+◌, ◌<◌, ◌≤◌, Bool, true, false, ◌||◌, eqb, not, List, [], ◌∷◌, ◌++◌, length, map, get_or, drop, length-append, arith}
use Rattle.std.proofs.lemmas.List.{append-nil, append_assoc, drop_all}
use Rattle.std.proofs.Math.Seq.{drop-cons}
use Rattle.zx_model.specs.Bits.{xor, member}
use Rattle.zx_model.proofs.BitLemmas.{xor-false}
use Rattle.zx_calculus.specs.Graph.{Vertex, End, Graph, ids, joined, end_vertices}
use Rattle.zx_calculus.specs.Edits.{is_pair}
use Rattle.zx_calculus.specs.Splits.{spider_of_phase_zero}
use Rattle.zx_calculus.proofs.Ids.{by_test, by_equal, member-here, member-there, member-append}
use Rattle.zx_calculus.proofs.Splitting.{absent_from}
use Rattle.zx_diagram.specs.declared.spider.Spider.{Spider}
use Rattle.zx_diagram.specs.declared.wire.Leg.{Leg}
use Rattle.zx_diagram.specs.Diagram.{numbers_from}
use Rattle.zx_diagram.specs.Sum.{leg_mark}
use Rattle.open_graph.specs.declared.side.Side.{Side}
use Rattle.open_graph.specs.declared.side.Side.TheVariants.{Input, Output}
use Rattle.open_graph.specs.Sides.{ends_of}
use Rattle.graph_like.specs.LikeForm.{ends_at, surplus_in, placed_in, hangs}
use Rattle.graph_like.specs.Internal.Building.{IsNumbered, HangsOn, AddsEnds, surplus_of}
use Rattle.graph_like.proofs.Hanging.{AreBelow}
use Rattle.graph_like.proofs.Homing.{absent-below}
use Rattle.graph_like.proofs.Building.{xor_regroup}

end_vertices-append : (es fs : List End) → end_vertices (es ++ fs) ≡ end_vertices es ++ end_vertices fs
end_vertices-append [] fs = refl
end_vertices-append (e ∷ es) fs = ap (λ l. e.vertex ∷ l) (end_vertices-append es fs)

-- which vertices had an end matters for those to come alone
surplus-same : (seen known vs : List ℕ) → ((w : ℕ) → member w vs ≡ true → member w seen ≡ member w known) → surplus_in seen vs ≡ surplus_in known vs
surplus-same seen known [] same = refl
surplus-same seen known (v ∷ vs) same =
    by_test (member v known)
    (λ t. rw (same v (member-here v vs) ∙ t, t) (ap (λ l. v ∷ l) (surplus-same seen known vs (λ w m. same w (member-there w v vs m)))))
    (λ t. rw (same v (member-here v vs) ∙ t, t)
    (surplus-same (v ∷ seen) (v ∷ known) vs (λ w m. ap (λ b. eqb w v || b) (same w (member-there w v vs m)))))

placed-same : (seen known : List ℕ) (next : ℕ) (es : List End) → ((w : ℕ) → member w (end_vertices es) ≡ true → member w seen ≡ member w known) →
    placed_in seen next es ≡ placed_in known next es
placed-same seen known next [] same = refl
placed-same seen known next (e ∷ es) same =
    by_test (member e.vertex known)
    (λ t. rw (same e.vertex (member-here e.vertex (end_vertices es)) ∙ t, t)
    (ap (λ l. record { vertex = next; hadamard = not e.hadamard } ∷ l) (placed-same seen known (suc next) es rest)))
    (λ t. rw (same e.vertex (member-here e.vertex (end_vertices es)) ∙ t, t)
    (ap (λ l. e ∷ l) (placed-same (e.vertex ∷ seen) (e.vertex ∷ known) next es (λ w m. ap (λ b. eqb w e.vertex || b) (rest w m)))))
  where
    rest : (w : ℕ) → member w (end_vertices es) ≡ true → member w seen ≡ member w known
    rest w m = same w (member-there w e.vertex (end_vertices es) m)

or_none : (b : Bool) → (b || false) ≡ b
or_none true = refl
or_none false = refl

-- one more at the end of the list
member-behind : (w n : ℕ) (vs : List ℕ) → w < n → member w (vs ++ n ∷ []) ≡ member w vs
member-behind w n vs low =
    member-append w vs (n ∷ [])
    ∙ by_equal w n (λ t e. absurd (omega arith)) (λ t ne. ap (λ b. member w vs || (b || false)) t ∙ or_none (member w vs))

member-either : (w n : ℕ) (vs : List ℕ) → member w (vs ++ n ∷ []) ≡ member w (n ∷ vs)
member-either w n vs = member-append w vs (n ∷ []) ∙ ap (λ b. member w vs || b) (or_none (eqb w n)) ∙ or_comm (member w vs) (eqb w n)
  where
    or_comm : (a b : Bool) → (a || b) ≡ (b || a)
    or_comm true true = refl
    or_comm true false = refl
    or_comm false true = refl
    or_comm false false = refl

no_vertex : (g : Graph) → IsNumbered g → member (length g.vertices) (ids g.vertices) ≡ false
no_vertex g n = ap (member (length g.vertices)) n.ids ∙ absent-below (length g.vertices) 0 (length g.vertices) (omega arith)

-- no end is at a number that no vertex has
pub free_behind : (side : Side) (g : Graph) → IsNumbered g → member (length g.vertices) (end_vertices (ends_of side g)) ≡ false
free_behind Input g n = absent_from (ids g.vertices) (end_vertices g.inputs) (length g.vertices) n.valid.inputs.there (no_vertex g n)
free_behind Output g n = absent_from (ids g.vertices) (end_vertices g.outputs) (length g.vertices) n.valid.outputs.there (no_vertex g n)

pub ends_of-hangs : (side : Side) (v : ℕ) (g k : Graph) → HangsOn v g k → ends_of side k ≡ ends_of side g
ends_of-hangs Input v g k h = h.inputs
ends_of-hangs Output v g k h = h.outputs

pub ends_none : (side : Side) (g : Graph) → AddsEnds side g [] g
ends_none side g = record {
  vertices = sym (append-nil g.vertices);
  edges = λ p q. sym (xor-false (joined g.edges p q));
  added = sym (append-nil (ends_of side g));
  others = refl;
}

-- further ends behind one that stays
ends_after_stay : (side : Side) (g k h : Graph) (e : End) (es : List End) → member e.vertex (end_vertices (ends_of side g)) ≡ false →
    AddsEnds side g (e ∷ []) k → AddsEnds side k es h → AddsEnds side g (e ∷ es) h
ends_after_stay side g k h e es free a b = record {
  vertices = rw free
      (b.vertices ∙ ap₂ (λ (vs : List Vertex) (s : List ℕ). vs ++ map spider_of_phase_zero (numbers_from (length vs) (length s))) same_vertices same_surplus);
  edges = λ p q. rw free
      (b.edges p q ∙ ap₂ xor ((rw free at (a.edges p q)) ∙ xor-false (joined g.edges p q))
      (ap₂ (λ (vs : List Vertex) (s : List ℕ). hangs (length vs) s p q) same_vertices same_surplus));
  added = rw free
      (b.added ∙ ap₂ (λ (fs : List End) (l : List End). fs ++ l) added (ap (λ (vs : List Vertex). placed_in (end_vertices (ends_of side k)) (length vs) es) same_vertices
      ∙ placed-same (end_vertices (ends_of side k)) (e.vertex ∷ seen) (length g.vertices) es (λ w m. members w))
      ∙ append_assoc (ends_of side g) (e ∷ []) _);
  others = b.others ∙ a.others;
}
  where
    seen : List ℕ
    seen = end_vertices (ends_of side g)

    same_vertices : k.vertices ≡ g.vertices
    same_vertices = (rw free at a.vertices) ∙ append-nil g.vertices

    added : ends_of side k ≡ ends_of side g ++ e ∷ []
    added = rw free at a.added

    members : (w : ℕ) → member w (end_vertices (ends_of side k)) ≡ member w (e.vertex ∷ seen)
    members w = ap (λ fs. member w (end_vertices fs)) added ∙ ap (member w) (end_vertices-append (ends_of side g) (e ∷ [])) ∙ member-either w e.vertex seen

    same_surplus : surplus_of side k es ≡ surplus_in (e.vertex ∷ seen) (end_vertices es)
    same_surplus = surplus-same (end_vertices (ends_of side k)) (e.vertex ∷ seen) (end_vertices es) (λ w m. members w)

-- further ends behind one that moves to a new vertex
ends_after_split : (side : Side) (g k h : Graph) (e : End) (es : List End) → member e.vertex (end_vertices (ends_of side g)) ≡ true →
    AreBelow (length g.vertices) (end_vertices es) → AddsEnds side g (e ∷ []) k → AddsEnds side k es h → AddsEnds side g (e ∷ es) h
ends_after_split side g k h e es taken below a b = record {
  vertices = rw taken
      (b.vertices ∙ ap₂ (λ (n : ℕ) (s : List ℕ). k.vertices ++ map spider_of_phase_zero (numbers_from n (length s))) longer same_surplus
      ∙ ap (λ (vs : List Vertex). vs ++ map spider_of_phase_zero (numbers_from (suc (length g.vertices)) (length (surplus_in seen (end_vertices es))))) vertices
      ∙ append_assoc g.vertices (spider_of_phase_zero (length g.vertices) ∷ []) _);
  edges = λ p q. rw taken
      (b.edges p q ∙ ap₂ xor (rw taken at (a.edges p q)) (ap₂ (λ (n : ℕ) (s : List ℕ). hangs n s p q) longer same_surplus)
      ∙ xor_regroup (joined g.edges p q) (is_pair e.vertex (length g.vertices) p q) (hangs (suc (length g.vertices)) (surplus_in seen (end_vertices es)) p q));
  added = rw taken
      (b.added ∙ ap₂ (λ (fs : List End) (l : List End). fs ++ l) added (ap (λ (n : ℕ). placed_in (end_vertices (ends_of side k)) n es) longer
      ∙ placed-same (end_vertices (ends_of side k)) seen (suc (length g.vertices)) es members)
      ∙ append_assoc (ends_of side g) (record { vertex = length g.vertices; hadamard = not e.hadamard } ∷ []) _);
  others = b.others ∙ a.others;
}
  where
    seen : List ℕ
    seen = end_vertices (ends_of side g)

    vertices : k.vertices ≡ g.vertices ++ spider_of_phase_zero (length g.vertices) ∷ []
    vertices = rw taken at a.vertices

    longer : length k.vertices ≡ suc (length g.vertices)
    longer = ap length vertices ∙ length-append g.vertices (spider_of_phase_zero (length g.vertices) ∷ []) ∙ omega arith

    added : ends_of side k ≡ ends_of side g ++ record { vertex = length g.vertices; hadamard = not e.hadamard } ∷ []
    added = rw taken at a.added

    members : (w : ℕ) → member w (end_vertices es) ≡ true → member w (end_vertices (ends_of side k)) ≡ member w seen
    members w m =
        ap (λ fs. member w (end_vertices fs)) added ∙ ap (member w) (end_vertices-append (ends_of side g) _) ∙ member-behind w (length g.vertices) seen (below w m)

    same_surplus : surplus_of side k es ≡ surplus_in seen (end_vertices es)
    same_surplus = surplus-same (end_vertices (ends_of side k)) seen (end_vertices es) members

pub ends_then : (side : Side) (g k h : Graph) (e : End) (es : List End) → AreBelow (length g.vertices) (end_vertices es) →
    AddsEnds side g (e ∷ []) k → AddsEnds side k es h → AddsEnds side g (e ∷ es) h
ends_then side g k h e es below a b =
    by_test (member e.vertex (end_vertices (ends_of side g)))
    (λ t. ends_after_split side g k h e es t below a b)
    (λ t. ends_after_stay side g k h e es t a b)

-- while the ends are gone through
pub record IsAddingEnds (side : Side) (all : List End) (i : ℕ) (g h : Graph) : Type 0 where
  pub longer : length g.vertices ≤ length h.vertices
  pub numbered : IsNumbered h
  pub leads : (k : Graph) → AddsEnds side h (drop i all) k → AddsEnds side g all k

pub adding_more : (side : Side) (all : List End) (i : ℕ) (g h h2 : Graph) (e : End) → i < length all → ((o : End) → get_or all i o ≡ e) →
    AreBelow (length g.vertices) (end_vertices all) → AddsEnds side h (e ∷ []) h2 → IsNumbered h2 →
    IsAddingEnds side all i g h → IsAddingEnds side all (i + 1) g h2
adding_more side all i g h h2 e low at below step numbered a = record {
  longer = omega (arith, a.longer, ap length step.vertices, length-append h.vertices (map spider_of_phase_zero (numbers_from (length h.vertices) (length (surplus_of side h (e ∷ []))))));
  numbered = numbered;
  leads = λ k rest. a.leads k (subst (λ es. AddsEnds side h es k) (sym cut)
      (ends_then side h h2 k e (drop (i + 1) all) (λ w m. within w (member-drop w (i + 1) all m)) step rest));
}
  where
    next : suc i ≡ i + 1
    next = omega arith

    cut : drop i all ≡ e ∷ drop (i + 1) all
    cut = drop-cons all i e low ∙ ap₂ (λ x l. x ∷ l) (at e) (ap (λ n. drop n all) next)

    within : (w : ℕ) → member w (end_vertices all) ≡ true → w < length h.vertices
    within w m = omega (arith, below w m, a.longer)

    member-drop : (w n : ℕ) (es : List End) → member w (end_vertices (drop n es)) ≡ true → member w (end_vertices es) ≡ true
    member-drop w nought es m = m
    member-drop w (suc n) [] m = m
    member-drop w (suc n) (f ∷ es) m = member-there w f.vertex (end_vertices es) (member-drop w n es m)

pub adding_ends : (side : Side) (all : List End) (i : ℕ) (g h : Graph) → length all ≤ i → IsAddingEnds side all i g h → AddsEnds side g all h
adding_ends side all i g h done a = a.leads h (subst (λ es. AddsEnds side h es h) (sym (drop_all i all done)) (ends_none side h))

-- the end of a leg
pub end_at : (spiders : List Spider) (home : ℕ → ℕ) (legs : List Leg) (i : ℕ) (leg : Leg) → i < length legs → ((o : Leg) → get_or legs i o ≡ leg) →
    (o : End) → get_or (ends_at spiders home legs) i o ≡ record { vertex = home leg.spider; hadamard = leg_mark spiders leg }
end_at spiders home (l ∷ legs) nought leg low at o = ap (λ (x : Leg). record { vertex = home x.spider; hadamard = leg_mark spiders x }) (at leg)
end_at spiders home (l ∷ legs) (suc i) leg low at o = end_at spiders home legs i leg (omega arith) at o
end_at spiders home [] i leg low at o = absurd (omega arith)
