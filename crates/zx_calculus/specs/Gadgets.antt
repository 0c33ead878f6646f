-- Phase gadgets: a YZ vertex adds its phase where the labels of its neighbours have odd parity.
-- Kissinger and van de Wetering, "Reducing T-count with the ZX-calculus" (arXiv 1903.10477, 2020), on phase gadgets.
use Rattle.std.specs.Prelude.{◌≡◌, ◌≢◌, ◌+◌, ℕ, pos, Bool, true, false, if◌then◌else◌, not, ◌&&◌, ◌==◌, List, [], ◌∷◌}
use Rattle.std.specs.List.{list_all}
use Rattle.zx_model.specs.Bits.{xor, member, one_if}
use Rattle.zx_model.specs.declared.scalar.Scalar.{Scalar}
use Rattle.zx_calculus.specs.Graph.{XY, YZ, Kind, Graph, ids, joined, plane_of, phase_of, is_XY, is_YZ, is_interior}
use Rattle.zx_calculus.specs.Graph.{neighbours, IsVertex, with_kinds, without}
use Rattle.zx_calculus.specs.Turns.{with_phase_added}
use Rattle.zx_calculus.specs.Scalars.{root_of_two_to}
use Rattle.zx_calculus.specs.Adjacency.{adjacent_graph}
use Rattle.zx_calculus.specs.Edits.{KeepsEnds}
use Rattle.zx_calculus.specs.Counts.{odd_phases, even_interior, not_XY, is_odd_at, is_even_at, is_even_interior}
use Rattle.zx_calculus.specs.Counts.{is_odd_fused, is_even_fused}

-- v's phase gains k
abbrev pub fuse_kind : ℕ → ℕ → ℕ → Kind → Kind
fuse_kind v k p kind = if p == v then with_phase_added k kind else kind

-- h is g after the YZ vertex u went, which had no neighbours
pub record IsDropLone (g : Graph) (u : ℕ) (h : Graph) : Type 0 where
  pub there : IsVertex g u
  pub plane : plane_of g u ≡ YZ
  pub lone : (p : ℕ) → joined g.edges u p ≡ false
  pub vertices : h.vertices ≡ without u g.vertices
  pub edges : (p q : ℕ) → p ≢ u → q ≢ u → joined h.edges p q ≡ joined g.edges p q
  pub frame : KeepsEnds g h

-- h is g after the YZ vertex u went, whose only neighbour was the XY vertex `into`, which gained its phase.
-- Kissinger and van de Wetering (2020), on phase gadgets with one leg
pub record IsFuseInto (g : Graph) (u : ℕ) (h : Graph) : Type 0 where
  pub into : ℕ
  pub there : IsVertex g u
  pub plane : plane_of g u ≡ YZ
  pub into_there : IsVertex g into
  pub into_plane : plane_of g into ≡ XY
  pub only_neighbour : (p : ℕ) → joined g.edges u p ≡ (p == into)
  pub vertices : h.vertices ≡ with_kinds (fuse_kind into (phase_of g u)) (without u g.vertices)
  pub edges : (p q : ℕ) → p ≢ u → q ≢ u → joined h.edges p q ≡ joined g.edges p q
  pub frame : KeepsEnds g h

-- h is g after v went and u gained its phase, both YZ, different, not adjacent, with equal neighbours.
-- Kissinger and van de Wetering (2020), gadget fusion
pub record IsFuseTwin (g : Graph) (u v : ℕ) (h : Graph) : Type 0 where
  pub there : IsVertex g u
  pub there_too : IsVertex g v
  pub different : u ≢ v
  pub plane : plane_of g u ≡ YZ
  pub plane_too : plane_of g v ≡ YZ
  pub not_adjacent : joined g.edges u v ≡ false
  pub equal_neighbours : (p : ℕ) → joined g.edges u p ≡ joined g.edges v p
  pub vertices : h.vertices ≡ with_kinds (fuse_kind u (phase_of g v)) (without v g.vertices)
  pub edges : (p q : ℕ) → p ≢ v → q ≢ v → joined h.edges p q ≡ joined g.edges p q
  pub frame : KeepsEnds g h

abbrev pub is_empty : List ℕ → Bool
is_empty [] = true
is_empty (v ∷ vs) = false

-- the first of a list of one, where it is XY
abbrev pub is_one_XY : Graph → List ℕ → Bool
is_one_XY g [] = false
is_one_XY g (v ∷ []) = is_XY (plane_of g v)
is_one_XY g (v ∷ (w ∷ ws)) = false

-- whether u is a gadget: a YZ vertex
abbrev pub is_gadget : Graph → ℕ → Bool
is_gadget g u = member u (ids g.vertices) && is_YZ (plane_of g u)

-- whether u can be dropped: it is YZ and has no neighbours
abbrev pub may_drop_lone : Graph → ℕ → Bool
may_drop_lone g u = is_gadget g u && is_empty (neighbours g u)

-- whether u can be fused into its neighbour: it is YZ, and has one, which is XY
abbrev pub may_fuse_into : Graph → ℕ → Bool
may_fuse_into g u = is_gadget g u && is_one_XY g (neighbours g u)

-- whether v can be fused into u: both are YZ, different, not adjacent, and have equal neighbours
abbrev pub may_fuse_twin : Graph → ℕ → ℕ → Bool
may_fuse_twin g u v =
    ((member u (ids g.vertices) && member v (ids g.vertices))
    && (not (u == v) && (is_YZ (plane_of g u) && is_YZ (plane_of g v))))
    && (not (joined g.edges u v)
    && list_all (λ p. not (xor (joined g.edges u p) (joined g.edges v p))) (ids g.vertices))

abbrev pub first_of_list : List ℕ → ℕ
first_of_list [] = 0
first_of_list (v ∷ vs) = v

-- the graphs that are made
abbrev pub dropped_graph : Graph → ℕ → Graph
dropped_graph g u = adjacent_graph g (without u g.vertices) (joined g.edges)

abbrev pub fused_into_graph : Graph → ℕ → Graph
fused_into_graph g u =
    adjacent_graph g (with_kinds (fuse_kind (first_of_list (neighbours g u)) (phase_of g u)) (without u g.vertices))
    (joined g.edges)

abbrev pub fused_twin_graph : Graph → ℕ → ℕ → Graph
fused_twin_graph g u v =
    adjacent_graph g (with_kinds (fuse_kind u (phase_of g v)) (without v g.vertices)) (joined g.edges)

-- the scalar of each of the three: 2, as the sum over the labels of a gadget is twice a power of z.
-- Kissinger and van de Wetering (2020) give the rewrites up to a scalar
abbrev pub gadget_scalar : Scalar
gadget_scalar = root_of_two_to (pos 2)

-- what they do to the counts: u was interior
pub record CountsAfterDropLone (g : Graph) (u : ℕ) (h : Graph) : Type 0 where
  pub odd_phases : odd_phases h + one_if (is_odd_at g u) ≡ odd_phases g
  pub even_interior : even_interior h + one_if (is_even_at g u) ≡ even_interior g
  pub not_XY : not_XY h + 1 ≡ not_XY g

-- `into` has the sum of both phases; it may be a boundary vertex
pub record CountsAfterFuseInto (g : Graph) (u into : ℕ) (h : Graph) : Type 0 where
  pub odd_phases : odd_phases h + one_if (is_odd_at g u) + one_if (is_odd_at g into) ≡
      odd_phases g + one_if (is_odd_fused g u into)
  pub even_interior : even_interior h + one_if (is_even_at g u) + one_if (is_even_interior g into) ≡
      even_interior g + one_if (is_interior g into && is_even_fused g u into)
  pub not_XY : not_XY h + 1 ≡ not_XY g

-- u has the sum of both phases; both are interior
pub record CountsAfterFuseTwin (g : Graph) (u v : ℕ) (h : Graph) : Type 0 where
  pub odd_phases : odd_phases h + one_if (is_odd_at g v) + one_if (is_odd_at g u) ≡
      odd_phases g + one_if (is_odd_fused g v u)
  pub even_interior : even_interior h + one_if (is_even_at g v) + one_if (is_even_at g u) ≡
      even_interior g + one_if (is_even_fused g v u)
  pub not_XY : not_XY h + 1 ≡ not_XY g
