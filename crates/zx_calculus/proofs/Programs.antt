-- What the programs of rewrites make is ordered, and its edges are those that are named.
use Rattle.std.proofs.Common.{◌≡◌, ◌≢◌, sym, ◌∙◌, ap, ap₂, ℕ, Bool, true, false, ◌&&◌, ltb, List}
use Rattle.std.specs.List.{list_all}
use Rattle.zx_model.specs.Bits.{member}
use Rattle.zx_calculus.specs.Adjacency.{edges_of}
use Rattle.zx_calculus.specs.Graph.{joined, WellFormed, Graph, neighbours, end_vertices, End, ids, Kind, with_kinds, without, in_order}
use Rattle.zx_calculus.proofs.EdgeLists.{joined-edges_of, OrderedEdges-edges_of}
use Rattle.zx_calculus.proofs.Ids.{by_test, Symmetric, member-filter, removed, member-removed_other, by_equal}
use Rattle.zx_calculus.proofs.Vertices.{ids-with_kinds}
use Rattle.zx_calculus.proofs.Edges.{joined_comm}
use Rattle.zx_calculus.proofs.Forms.{ids-without}
use Rattle.zx_calculus.proofs.Kept.{in_order-removed}
use Rattle.zx_calculus.proofs.Results.{restrict}
use Rattle.zx_calculus.proofs.Splitting.{joined-absent, joined-self, all_at, no_loop}

pub edges_full : (adjacent : ℕ → ℕ → Bool) (vs : List ℕ) (p q : ℕ) → Symmetric adjacent → p ≢ q → (member p vs ≡ false → adjacent p q ≡ false) → (member q vs ≡ false → adjacent p q ≡ false) → joined (edges_of adjacent vs) p q ≡ adjacent p q
edges_full adjacent vs p q s n no_p no_q =
    joined-edges_of adjacent vs p q s n
    ∙ by_test (member p vs)
    (λ t. by_test (member q vs) (λ t'. ap₂ (λ a b. (a && b) && adjacent p q) t t')
    (λ f. ap₂ (λ a b. (a && b) && adjacent p q) t f ∙ sym (no_q f)))
    (λ f. ap (λ a. (a && member q vs) && adjacent p q) f ∙ sym (no_p f))

module _ (g : Graph) (w : WellFormed g) where
  pub absent_left : (p q : ℕ) → member p (ids g.vertices) ≡ false → joined g.edges p q ≡ false
  absent_left p q f = joined-absent (ids g.vertices) g.edges p q w.edges.lower_there w.edges.higher_there f

  pub absent_right : (p q : ℕ) → member q (ids g.vertices) ≡ false → joined g.edges p q ≡ false
  absent_right p q f = joined_comm g.edges p q ∙ absent_left q p f

  pub rising_kinds : (f : ℕ → Kind → Kind) → in_order ltb (ids (with_kinds f g.vertices)) ≡ true
  rising_kinds f = ap (in_order ltb) (ids-with_kinds f g.vertices) ∙ w.vertices_rising

  pub rising_without : (f : ℕ → Kind → Kind) (u : ℕ) → in_order ltb (ids (with_kinds f (without u g.vertices))) ≡ true
  rising_without f u = ap (in_order ltb) (ids-with_kinds f (without u g.vertices) ∙ ids-without u g.vertices) ∙ in_order-removed u (ids g.vertices) w.vertices_rising

  -- the edges that stay where u goes
  pub removal_edges : (u : ℕ) (vs : List ℕ) → vs ≡ removed u (ids g.vertices) → in_order ltb vs ≡ true → (p q : ℕ) → p ≢ u → q ≢ u → joined (edges_of (joined g.edges) vs) p q ≡ joined g.edges p q
  removal_edges u vs e rising p q i j =
      by_equal p q
      (λ t same. ap (λ r. joined (edges_of (joined g.edges) vs) r q) same ∙ joined-self _ q (OrderedEdges-edges_of (joined g.edges) vs rising).lower_first ∙ sym (no_loop g q w) ∙ ap (λ r. joined g.edges r q) (sym same))
      (λ f n. joined-edges_of (joined g.edges) vs p q (joined_comm g.edges) n
      ∙ ap₂ (λ a b. (a && b) && joined g.edges p q) (ap (member p) e ∙ member-removed_other p u (ids g.vertices) i) (ap (member q) e ∙ member-removed_other q u (ids g.vertices) j)
      ∙ sym (restrict (ids g.vertices) g.edges p q w.edges))

  pub neighbour : (u p : ℕ) → joined g.edges u p ≡ member p (neighbours g u)
  neighbour u p =
      by_test (member p (ids g.vertices))
      (λ t. sym (member-filter (joined g.edges u) (ids g.vertices) p ∙ ap (λ b. b && joined g.edges u p) t))
      (λ f. absent_right u p f ∙ sym (member-filter (joined g.edges u) (ids g.vertices) p ∙ ap (λ b. b && joined g.edges u p) f))

  pub rising_plain : (u : ℕ) → in_order ltb (ids (without u g.vertices)) ≡ true
  rising_plain u = ap (in_order ltb) (ids-without u g.vertices) ∙ in_order-removed u (ids g.vertices) w.vertices_rising

  pub end_there : (b : ℕ) (ends : List End) → list_all (λ u. member u (ids g.vertices)) (end_vertices ends) ≡ true → member b (end_vertices ends) ≡ true → member b (ids g.vertices) ≡ true
  end_there b ends there t = all_at (λ u. member u (ids g.vertices)) (end_vertices ends) b there t
