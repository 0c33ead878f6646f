-- The lists of neighbours along plain edges, edge by edge.
use Rattle.std.proofs.Common.{◌≡◌, ◌⊎◌, inl, inr, refl, sym, ◌∙◌, ap, ap₂, subst, ℕ, ◌+◌, ◌<◌, Bool, true, false, ◌&&◌, ◌||◌, eqb, List, length, true≢false, arith}
use Rattle.std.specs.Prelude.{slice_index_or}
use Rattle.zx_model.specs.Bits.{member}
use Rattle.zx_calculus.proofs.Ids.{by_test, by_equal, eqb-self, and-left, and-right}
use Rattle.std.proofs.lemmas.List.{get_or_default}
use Rattle.zx_diagram.specs.declared.spider.Spider.{Spider}
use Rattle.zx_diagram.specs.declared.wire.Wire.{Wire}
use Rattle.zx_diagram.specs.Diagram.{Diagram, IsDiagram, IsEdgeOf}
use Rattle.zx_diagram.specs.Sum.{edge_mark}
use Rattle.graph_like.specs.Classes.{AreFused, named_by}
use Rattle.graph_like.specs.Internal.Fusing.{near_at, AreWithin, IsFusing, GainsEdge}
use Rattle.graph_like.proofs.FusingLemmas.{either, or_right}

-- the plain ones of the first i edges are joined
pub record IsJoined (d : Diagram) (near : List (List ℕ)) (i : ℕ) : Type 0 where
  pub same : length near ≡ length d.spiders
  pub within : AreWithin near (length d.spiders)
  pub sound : (k v : ℕ) → member v (near_at near k) ≡ true → AreFused d k v
  pub first : (j : ℕ) (o : Wire) → j < i → edge_mark d.spiders (slice_index_or d.edges j o) ≡ false →
      member (slice_index_or d.edges j o).b (near_at near (slice_index_or d.edges j o).a) ≡ true
  pub second : (j : ℕ) (o : Wire) → j < i → edge_mark d.spiders (slice_index_or d.edges j o) ≡ false →
      member (slice_index_or d.edges j o).a (near_at near (slice_index_or d.edges j o).b) ≡ true

pub joined-skipped : (d : Diagram) (near : List (List ℕ)) (i : ℕ) (e : Wire) → ((o : Wire) → slice_index_or d.edges i o ≡ e) →
    edge_mark d.spiders e ≡ true → IsJoined d near i → IsJoined d near (i + 1)
joined-skipped d near i e at marked s = record {
  same = s.same;
  within = s.within;
  sound = s.sound;
  first = λ j o low plain. by_equal j i (λ t q. absurd (none j o q plain)) (λ t n. s.first j o (omega arith) plain);
  second = λ j o low plain. by_equal j i (λ t q. absurd (none j o q plain)) (λ t n. s.second j o (omega arith) plain);
}
  where
    none : (j : ℕ) (o : Wire) → j ≡ i → edge_mark d.spiders (slice_index_or d.edges j o) ≡ false → ⊥
    none j o q plain =
        true≢false (sym marked ∙ ap (edge_mark d.spiders) (sym (ap (λ k. slice_index_or d.edges k o) q ∙ at o)) ∙ plain)

or-left : (a b : Bool) → a ≡ true → (a || b) ≡ true
or-left true b h = refl
or-left false b h = absurd (true≢false (sym h))

pub joined-more : (d : Diagram) (near new : List (List ℕ)) (i : ℕ) (e : Wire) → IsDiagram d → i < length d.edges →
    ((o : Wire) → slice_index_or d.edges i o ≡ e) → edge_mark d.spiders e ≡ false → length new ≡ length near →
    ((k x : ℕ) → member x (near_at new k) ≡ (member x (near_at near k) || (((eqb k e.a) && (eqb x e.b)) || ((eqb k e.b) && (eqb x e.a))))) →
    IsJoined d near i → IsJoined d new (i + 1)
joined-more d near new i e is low at plain length_kept members s = record {
  same = length_kept ∙ s.same;
  within = λ k v m. inside k v (either _ _ (sym (members k v) ∙ m));
  sound = λ k v m. fused k v (either _ _ (sym (members k v) ∙ m));
  first = λ j o early unmarked. by_equal j i
      (λ t q. subst (λ w. member w.b (near_at new w.a) ≡ true) (sym (ap (λ k. slice_index_or d.edges k o) q ∙ at o)) forth)
      (λ t n. members _ _ ∙ or-left _ _ (s.first j o (omega arith) unmarked));
  second = λ j o early unmarked. by_equal j i
      (λ t q. subst (λ w. member w.a (near_at new w.b) ≡ true) (sym (ap (λ k. slice_index_or d.edges k o) q ∙ at o)) back)
      (λ t n. members _ _ ∙ or-left _ _ (s.second j o (omega arith) unmarked));
}
  where
    ends : IsEdgeOf (length d.spiders) e
    ends = subst (IsEdgeOf (length d.spiders)) (at e) (is.edges i e low)

    forth : member e.b (near_at new e.a) ≡ true
    forth =
        members e.a e.b
        ∙ or_right _ _ (or-left _ _ (ap₂ (λ p q. p && q) (eqb-self e.a) (eqb-self e.b)))

    back : member e.a (near_at new e.b) ≡ true
    back =
        members e.b e.a
        ∙ or_right _ _ (or_right _ _ (ap₂ (λ p q. p && q) (eqb-self e.b) (eqb-self e.a)))

    equal : (p q : ℕ) → eqb p q ≡ true → p ≡ q
    equal p q h = by_equal p q (λ t e. e) (λ t n. absurd (true≢false (sym h ∙ t)))

    along : AreFused d e.a e.b
    along test same =
        subst (λ w. edge_mark d.spiders w ≡ false → test w.a ≡ test w.b) (at e) (same i e low) plain

    inside : (k v : ℕ) → (member v (near_at near k) ≡ true) ⊎ ((((eqb k e.a) && (eqb v e.b)) || ((eqb k e.b) && (eqb v e.a))) ≡ true) → v < length d.spiders
    inside k v (inl m) = s.within k v m
    inside k v (inr m) = new_one (either _ _ m)
      where
        new_one : (((eqb k e.a) && (eqb v e.b)) ≡ true) ⊎ (((eqb k e.b) && (eqb v e.a)) ≡ true) → v < length d.spiders
        new_one (inl h) = subst (λ w. w < length d.spiders) (sym (equal v e.b (and-right _ _ h))) ends.1
        new_one (inr h) = subst (λ w. w < length d.spiders) (sym (equal v e.a (and-right _ _ h))) ends.0

    fused : (k v : ℕ) → (member v (near_at near k) ≡ true) ⊎ ((((eqb k e.a) && (eqb v e.b)) || ((eqb k e.b) && (eqb v e.a))) ≡ true) → AreFused d k v
    fused k v (inl m) = s.sound k v m
    fused k v (inr m) = new_one (either _ _ m)
      where
        new_one : (((eqb k e.a) && (eqb v e.b)) ≡ true) ⊎ (((eqb k e.b) && (eqb v e.a)) ≡ true) → AreFused d k v
        new_one (inl h) test same =
            ap test (equal k e.a (and-left _ _ h)) ∙ along test same ∙ ap test (sym (equal v e.b (and-right _ _ h)))
        new_one (inr h) test same =
            ap test (equal k e.b (and-left _ _ h)) ∙ sym (along test same) ∙ ap test (sym (equal v e.a (and-right _ _ h)))

pub joined-step : (d : Diagram) (near new : List (List ℕ)) (i : ℕ) (e : Wire) → IsDiagram d → i < length d.edges →
    ((o : Wire) → slice_index_or d.edges i o ≡ e) → length new ≡ length near →
    (edge_mark d.spiders e ≡ false → GainsEdge (near_at near) e (near_at new)) → (edge_mark d.spiders e ≡ true → new ≡ near) →
    IsJoined d near i → IsJoined d new (i + 1)
joined-step d near new i e is low at same plain marked s =
    by_test (edge_mark d.spiders e)
    (λ t. subst (λ l. IsJoined d l (i + 1)) (sym (marked t)) (joined-skipped d near i e at t s))
    (λ t. joined-more d near new i e is low at t same (plain t) s)

-- the same, where the lists were lent
pub joined-lent : (d : Diagram) (near new : List (List ℕ)) (i : ℕ) (spiders : List Spider) (edges : List Wire) (o : Wire) →
    spiders ≡ d.spiders → edges ≡ d.edges → IsDiagram d → i < length edges → length new ≡ length near →
    (edge_mark spiders (slice_index_or edges i o) ≡ false → GainsEdge (near_at near) (slice_index_or edges i o) (near_at new)) →
    (edge_mark spiders (slice_index_or edges i o) ≡ true → new ≡ near) → IsJoined d near i → IsJoined d new (i + 1)
joined-lent d near new i spiders edges o same_spiders same_edges is low same plain marked s =
    joined-step d near new i (slice_index_or d.edges i o) is there (λ p. get_or_default d.edges i p o there) same
    (λ m. subst (λ l. GainsEdge (near_at near) (slice_index_or l i o) (near_at new)) same_edges (plain (lent ∙ m)))
    (λ m. marked (lent ∙ m)) s
  where
    there : i < length d.edges
    there = subst (λ l. i < length l) same_edges low

    lent : edge_mark spiders (slice_index_or edges i o) ≡ edge_mark d.spiders (slice_index_or d.edges i o)
    lent = ap₂ (λ ss es. edge_mark ss (slice_index_or es i o)) same_spiders same_edges

-- the loop over all spiders
pub record IsFusingLists (d : Diagram) (near : List (List ℕ)) (least : List ℕ) (u : ℕ) : Type 0 where
  pub same : length near ≡ length d.spiders
  pub same_least : length least ≡ length d.spiders
  pub within : AreWithin near (length d.spiders)
  pub fusing : IsFusing d (named_by least) (near_at near) u u
