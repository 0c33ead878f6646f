-- A graph with a spider of phase 0 more, without ends, and then with an edge to it.
use Rattle.std.proofs.Common.{◌≡◌, refl, sym, ◌∙◌, ap, ℕ, Bool, true, false, ◌&&◌, ◌||◌, eqb, eqb-true, true≢false}
use Rattle.zx_model.specs.Bits.{xor, member}
use Rattle.zx_calculus.specs.Graph.{XY, Kind, Graph, ids, kind_of, plane_of, joined, insert_vertex, IsVertex, WellFormed}
use Rattle.zx_calculus.specs.Splits.{spider_of_phase_zero}
use Rattle.zx_calculus.specs.Edits.{is_pair, IsToggle}
use Rattle.zx_calculus.specs.Turns.{in_plane}
use Rattle.zx_calculus.proofs.Booleans.{or-true, or-apart}
use Rattle.zx_calculus.proofs.Ids.{eqb-self}
use Rattle.zx_calculus.proofs.Edges.{joined_comm}
use Rattle.zx_calculus.proofs.Vertices.{member-insert, kind_of-insert}
use Rattle.zx_calculus.proofs.Splitting.{joined-absent}

-- of a pair that the new vertex is in no edge is an edge
pair_absent : (j p_here v_next p_next v_here : Bool) → (v_next ≡ true → j ≡ false) → (p_next ≡ true → j ≡ false) → (j && ((p_here && v_next) || (p_next && v_here))) ≡ false
pair_absent false a b c d f g = refl
pair_absent true a true c d f g = absurd (true≢false (f refl))
pair_absent true a b true d f g = absurd (true≢false (g refl))
pair_absent true true false false d f g = refl
pair_absent true false false false d f g = refl

module _ (s : Graph) (v phase : ℕ) (g : Graph) (fresh : member v (ids s.vertices) ≡ false) (zero_phase : phase ≡ 0)
    (added : g ≡ record { vertices = insert_vertex (record { id = v; kind = in_plane XY phase }) s.vertices; edges = s.edges; inputs = s.inputs; outputs = s.outputs }) where
  pub vertices_are : g.vertices ≡ insert_vertex (spider_of_phase_zero v) s.vertices
  vertices_are = ap (λ (h : Graph). h.vertices) added ∙ ap (λ k. insert_vertex (record { id = v; kind = in_plane XY k }) s.vertices) zero_phase

  member_is : (p : ℕ) → member p (ids g.vertices) ≡ (eqb p v || member p (ids s.vertices))
  member_is p = ap (λ vs. member p (ids vs)) vertices_are ∙ member-insert p (spider_of_phase_zero v) s.vertices

  pub new_live : IsVertex g v
  new_live = member_is v ∙ ap (λ b. b || member v (ids s.vertices)) (eqb-self v)

  pub new_plane : plane_of g v ≡ XY
  new_plane = ap (λ vs. (kind_of vs v).plane) vertices_are ∙ ap (λ (k : Kind). k.plane) (kind_of-insert (spider_of_phase_zero v) s.vertices fresh)

  pub old_live : (u : ℕ) → IsVertex s u → IsVertex g u
  old_live u there = member_is u ∙ ap (λ b. eqb u v || b) there ∙ or-true (eqb u v)

  pub edges_are : WellFormed s → (u : ℕ) (h : Graph) → IsToggle g u v h → (p q : ℕ) → joined h.edges p q ≡ (joined s.edges p q || is_pair u v p q)
  edges_are w u h toggle p q =
      toggle.edges p q
      ∙ ap (λ (k : Graph). xor (joined k.edges p q) (is_pair u v p q)) added
      ∙ sym (or-apart (joined s.edges p q) (is_pair u v p q)
      (pair_absent (joined s.edges p q) (eqb p u) (eqb q v) (eqb p v) (eqb q u) (λ e. joined_comm s.edges p q ∙ no_edge q p e) (λ e. no_edge p q e)))
    where
      no_edge : (a b : ℕ) → eqb a v ≡ true → joined s.edges a b ≡ false
      no_edge a b e = joined-absent (ids s.vertices) s.edges a b w.edges.lower_there w.edges.higher_there
          (ap (λ i. member i (ids s.vertices)) (eqb-true a v e) ∙ fresh)
