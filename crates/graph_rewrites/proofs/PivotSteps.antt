-- What the changes of a graph, one after the other, make of it: a pivot.
use Rattle.std.proofs.Common.{◌≡◌, ◌≢◌, refl, sym, ◌∙◌, ap, ℕ, true, false, cond, ◌&&◌, eqb, ne_eqb, true≢false}
use Rattle.zx_model.specs.Bits.{member}
use Rattle.zx_calculus.specs.Graph.{Kind, Graph, ids, joined, neighbours, with_kinds, IsVertex, WellFormed}
use Rattle.zx_calculus.specs.Pivots.{IsPivot, pivot_kind}
use Rattle.zx_calculus.specs.Steps.{allowed, Pivot}
use Rattle.zx_calculus.specs.Edits.{at_vertex}
use Rattle.zx_calculus.specs.Turns.{half_turned, pivoted}
use Rattle.zx_calculus.proofs.Booleans.{and-false}
use Rattle.zx_calculus.proofs.Ids.{by_equal}
use Rattle.zx_calculus.proofs.Vertices.{with_kinds_same}
use Rattle.zx_calculus.proofs.Splitting.{no_loop}
use Rattle.zx_calculus.specs.Internal.ChangedKinds.{with_changed}
use Rattle.zx_calculus.proofs.Allowed.{pivot_live, pivot_live_too, pivot_interior, pivot_interior_too, pivot_joined}
use Rattle.zx_calculus.proofs.Toggling.{member-neighbours}
use Rattle.zx_calculus.proofs.ChangedKinds.{with_kinds-with_kinds, turned_live}
use Rattle.graph_rewrites.specs.Internal.Changes.{IsRewired, half_turned_in}

-- adjacent vertices differ
pub adjacent_apart : (g : Graph) (u v : ℕ) → WellFormed g → joined g.edges u v ≡ true → u ≢ v
adjacent_apart g u v w uv e = true≢false (sym uv ∙ ap (joined g.edges u) (sym e) ∙ no_loop g u w)

module _ (g k : Graph) (u v : ℕ) (w : WellFormed g) (may : allowed g (Pivot u v) ≡ true)
    (c : IsRewired (with_changed (half_turned_in (neighbours g u) (joined g.edges v)) g) u v k) where
  abbrev halves : ℕ → Kind → Kind
  halves = half_turned_in (neighbours g u) (joined g.edges v)

  pub rewired_live : (x : ℕ) → IsVertex g x → IsVertex k x
  rewired_live x there = ap (λ vs. member x (ids vs)) c.vertices ∙ turned_live halves g (with_changed halves g) x refl there

  apart : u ≢ v
  apart = adjacent_apart g u v w (pivot_joined g u v may)

  abbrev own : ℕ → Kind → Kind
  own p kind = at_vertex v pivoted p (at_vertex u pivoted p kind)

  kinds : (p : ℕ) (kind : Kind) → own p (halves p kind) ≡ pivot_kind u v (joined g.edges u) (joined g.edges v) p kind
  kinds p kind =
      ap (λ b. own p (cond (b && joined g.edges v p) (half_turned kind) kind)) (member-neighbours g u p w)
      ∙ by_equal p u
      (λ t e. let away : eqb p v ≡ false = ne_eqb p v (λ f. apart (sym e ∙ f)) in
      let loop : joined g.edges u p ≡ false = ap (joined g.edges u) e ∙ no_loop g u w in rw (t, away, loop) refl)
      (λ f n. by_equal p v
      (λ t e. let loop : joined g.edges v p ≡ false = ap (joined g.edges v) e ∙ no_loop g v w in
      rw (f, t, loop, and-false (joined g.edges u p)) refl)
      (λ f' n'. rw (f, f') refl))

  -- the common neighbours, the edges, then the two vertices
  pub pivot_step : (h : Graph) → h ≡ with_changed (at_vertex v pivoted) (with_changed (at_vertex u pivoted) k) →
      WellFormed h → IsPivot g u v h
  pivot_step h made wh = record {
    there = pivot_live g u v may;
    there_too = pivot_live_too g u v may;
    interior = pivot_interior g u v may;
    interior_too = pivot_interior_too g u v may;
    adjacent = pivot_joined g u v may;
    vertices = ap (λ (x : Graph). x.vertices) made
        ∙ with_kinds-with_kinds (at_vertex v pivoted) (at_vertex u pivoted) k.vertices
        ∙ ap (with_kinds own) c.vertices ∙ with_kinds-with_kinds own halves g.vertices
        ∙ with_kinds_same (λ p x. own p (halves p x)) (pivot_kind u v (joined g.edges u) (joined g.edges v)) g.vertices
        (λ p x t. kinds p x);
    still_adjacent = edges u v ∙ c.still_adjacent;
    of_u = λ p pu pv. edges u p ∙ c.of_u p pu pv;
    of_v = λ p pu pv. edges v p ∙ c.of_v p pu pv;
    between = λ p q pu pv qu qv n. edges p q ∙ c.between p q pu pv qu qv n;
    frame = record {
      ordered = wh.edges;
      inputs = ap (λ (x : Graph). x.inputs) made ∙ c.frame.inputs;
      outputs = ap (λ (x : Graph). x.outputs) made ∙ c.frame.outputs;
    };
  }
    where
      edges : (p q : ℕ) → joined h.edges p q ≡ joined k.edges p q
      edges p q = ap (λ (x : Graph). joined x.edges p q) made
