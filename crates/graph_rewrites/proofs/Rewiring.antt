-- The edges of a pivot: those across two sets, u with its neighbours and v with its.
use Rattle.std.proofs.Common.{◌≡◌, ◌≢◌, sym, ◌∙◌, ap, ap₂, ℕ, Bool, true, false, ◌&&◌, ◌||◌, eqb, List, ◌∷◌, ne_eqb}
use Rattle.zx_model.specs.Bits.{xor, member}
use Rattle.zx_bits.specs.Sets.{IsBelow}
use Rattle.zx_calculus.specs.Graph.{Kind, Graph, ids, joined, neighbours, IsVertex, WellFormed}
use Rattle.zx_calculus.specs.Toggles.{IsToggled}
use Rattle.zx_calculus.specs.Internal.ChangedKinds.{with_changed}
use Rattle.zx_calculus.proofs.Vertices.{ids-with_kinds}
use Rattle.zx_calculus.proofs.Booleans.{parities, xor-false, and_comm, and-true}
use Rattle.zx_calculus.proofs.Ids.{by_equal, eqb-self}
use Rattle.zx_calculus.proofs.Toggling.{member-neighbours, neighbour_live}
use Rattle.zx_calculus.proofs.Edges.{joined_comm}
use Rattle.zx_calculus.proofs.Splitting.{no_loop}
use Rattle.zx_calculus.specs.Toggles.{across}
use Rattle.graph_rewrites.specs.Internal.Changes.{IsRewired}

-- the edge from one of the two to another vertex
exchanged : (a b : Bool) → xor a (xor b (a && true)) ≡ b
exchanged a b = rw and-true (simp parities)

exchanged_too : (a b : Bool) → xor b (xor b (a && true)) ≡ a
exchanged_too a b = rw and-true (simp parities)

-- a vertex with its neighbours, as a test, and below a bound
pub closed_tells : (g : Graph) (u : ℕ) → WellFormed g → (p : ℕ) → member p (u ∷ neighbours g u) ≡ xor (joined g.edges u p) (eqb p u)
closed_tells g u w p =
    ap (λ b. eqb p u || b) (member-neighbours g u p w)
    ∙ by_equal p u
    (λ t e. let absent : joined g.edges u p ≡ false = ap (joined g.edges u) e ∙ no_loop g u w in
    ap₂ (λ a b. a || b) t absent ∙ sym (ap₂ xor absent t))
    (λ f n. rw f (sym (xor-false (joined g.edges u p))))

pub closed_below : (g : Graph) (u reach : ℕ) → IsVertex g u → IsBelow reach (ids g.vertices) → IsBelow reach (u ∷ neighbours g u)
closed_below g u reach live below p there =
    by_equal p u (λ t e. below p (ap (λ q. member q (ids g.vertices)) e ∙ live))
    (λ f n. below p (neighbour_live g u p (ap (λ b. b || member p (neighbours g u)) (sym f) ∙ there)))

-- other planes and phases leave the ids
pub turned_below : (f : ℕ → Kind → Kind) (g h : Graph) (reach : ℕ) → h ≡ with_changed f g → IsBelow reach (ids g.vertices) →
    IsBelow reach (ids h.vertices)
turned_below f g h reach e below p there =
    below p (sym (ap (λ l. member p (ids l.vertices)) e ∙ ap (member p) (ids-with_kinds f g.vertices)) ∙ there)

module _ (g h : Graph) (u v : ℕ) (us vs : List ℕ) (w : WellFormed g) (apart : u ≢ v)
    (uv : joined g.edges u v ≡ true)
    (in_us : (p : ℕ) → member p us ≡ xor (joined g.edges u p) (eqb p u))
    (in_vs : (p : ℕ) → member p vs ≡ xor (joined g.edges v p) (eqb p v))
    (toggled : IsToggled g (across us vs) h) where
  -- where u and v stand, and others
  u_in_us : member u us ≡ true
  u_in_us = in_us u ∙ ap₂ xor (no_loop g u w) (eqb-self u)

  v_in_us : member v us ≡ true
  v_in_us = in_us v ∙ ap₂ xor uv (ne_eqb v u (λ e. apart (sym e)))

  u_in_vs : member u vs ≡ true
  u_in_vs = in_vs u ∙ ap₂ xor (joined_comm g.edges v u ∙ uv) (ne_eqb u v apart)

  v_in_vs : member v vs ≡ true
  v_in_vs = in_vs v ∙ ap₂ xor (no_loop g v w) (eqb-self v)

  near : (p : ℕ) → p ≢ u → member p us ≡ joined g.edges u p
  near p n = in_us p ∙ ap (xor (joined g.edges u p)) (ne_eqb p u n) ∙ xor-false (joined g.edges u p)

  far : (p : ℕ) → p ≢ v → member p vs ≡ joined g.edges v p
  far p n = in_vs p ∙ ap (xor (joined g.edges v p)) (ne_eqb p v n) ∙ xor-false (joined g.edges v p)

  picked : (a b c d : Bool) (p q : ℕ) → p ≢ q →
      member p us ≡ a → member q vs ≡ b → member q us ≡ c → member p vs ≡ d →
      joined h.edges p q ≡ xor (joined g.edges p q) (xor (a && b) (c && d))
  picked a b c d p q n ea eb ec ed =
      toggled.edges p q n
      ∙ ap (xor (joined g.edges p q)) (ap₂ xor (ap₂ (λ x y. x && y) ea eb) (ap₂ (λ x y. x && y) ec ed))

  pub rewired : IsRewired g u v h
  rewired = record {
    vertices = toggled.vertices;
    still_adjacent = picked true true true true u v apart u_in_us v_in_vs v_in_us u_in_vs
        ∙ xor-false (joined g.edges u v) ∙ uv;
    of_u = λ p pu pv. picked true _ _ true u p (λ e. pu (sym e)) u_in_us (far p pv) (near p pu) u_in_vs
        ∙ exchanged (joined g.edges u p) (joined g.edges v p);
    of_v = λ p pu pv. picked true _ _ true v p (λ e. pv (sym e)) v_in_us (far p pv) (near p pu) v_in_vs
        ∙ exchanged_too (joined g.edges u p) (joined g.edges v p);
    between = λ p q pu pv qu qv n. picked _ _ _ _ p q n (near p pu) (far q qv) (near q qu) (far p pv)
        ∙ ap (λ x. xor (joined g.edges p q) (xor (joined g.edges u p && joined g.edges v q) x))
        (and_comm (joined g.edges u q) (joined g.edges v p));
    frame = toggled.frame;
  }
