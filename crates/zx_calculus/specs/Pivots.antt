-- The pivot along an edge.
-- Duncan and others (Quantum 4, 279, 2020), on pivoting; Backens and others (Quantum 5, 421, 2021), on the same in all
-- three planes.
use Rattle.std.specs.Prelude.{◌≡◌, ◌≢◌, ◌+◌, ℕ, pos, negsuc, Bool, true, if◌then◌else◌, ◌&&◌, ◌||◌, ◌==◌, List}
use Rattle.std.specs.List.{filter}
use Rattle.zx_model.specs.Phase.{sum_of_phases}
use Rattle.zx_model.specs.Bits.{xor, member, one_if}
use Rattle.zx_model.specs.Scalar.{one_scalar, product_of_scalars}
use Rattle.zx_model.specs.declared.scalar.Scalar.{Scalar}
use Rattle.zx_calculus.specs.Graph.{Plane, XY, XZ, YZ, Kind, Graph, ids, joined, plane_of, phase_of, is_XY, is_YZ}
use Rattle.zx_calculus.specs.Graph.{is_interior, neighbours, IsVertex, Interior, with_kinds}
use Rattle.zx_calculus.specs.Turns.{half_turned, pivoted}
use Rattle.zx_calculus.specs.Adjacency.{adjacent_graph}
use Rattle.zx_calculus.specs.Edits.{KeepsEnds}
use Rattle.zx_calculus.specs.Scalars.{root_of_two_to, turn_by, half_powers}
use Rattle.zx_calculus.specs.Counts.{odd_phases, even_interior, not_XY}

-- u and v get their own change, and each common neighbour a half turn
abbrev pub pivot_kind : ℕ → ℕ → (ℕ → Bool) → (ℕ → Bool) → ℕ → Kind → Kind
pivot_kind u v near_u near_v p kind =
    if (p == u) || (p == v) then pivoted kind else if near_u p && near_v p then half_turned kind else kind

-- h is g after a pivot of the adjacent interior vertices u and v: they exchange their other neighbours, edges
-- are toggled between the three classes (adjacent to u alone, to v alone, to both), and the common neighbours
-- get a half turn
pub record IsPivot (g : Graph) (u v : ℕ) (h : Graph) : Type 0 where
  pub there : IsVertex g u
  pub there_too : IsVertex g v
  pub interior : Interior g u
  pub interior_too : Interior g v
  pub adjacent : joined g.edges u v ≡ true
  pub vertices : h.vertices ≡ with_kinds (pivot_kind u v (joined g.edges u) (joined g.edges v)) g.vertices
  pub still_adjacent : joined h.edges u v ≡ true
  pub of_u : (p : ℕ) → p ≢ u → p ≢ v → joined h.edges u p ≡ joined g.edges v p
  pub of_v : (p : ℕ) → p ≢ u → p ≢ v → joined h.edges v p ≡ joined g.edges u p
  pub between : (p q : ℕ) → p ≢ u → p ≢ v → q ≢ u → q ≢ v → p ≢ q →
      joined h.edges p q ≡ xor (joined g.edges p q)
      (xor (joined g.edges u p && joined g.edges v q) (joined g.edges v p && joined g.edges u q))
  pub frame : KeepsEnds g h

-- whether it can be done: u and v are adjacent interior vertices
abbrev pub may_pivot : Graph → ℕ → ℕ → Bool
may_pivot g u v =
    (member u (ids g.vertices) && member v (ids g.vertices))
    && ((is_interior g u && is_interior g v) && joined g.edges u v)

-- the adjacency after it
abbrev pub pivot_adjacent : (ℕ → ℕ → Bool) → ℕ → ℕ → ℕ → ℕ → Bool
pivot_adjacent a u v p q =
    if p == u then (if q == v then true else a v q)
    else if p == v then (if q == u then true else a u q)
    else if q == u then a v p
    else if q == v then a u p
    else xor (a p q) (xor (a u p && a v q) (a v p && a u q))

-- the graph that it makes
abbrev pub pivoted_graph : Graph → ℕ → ℕ → Graph
pivoted_graph g u v =
    adjacent_graph g (with_kinds (pivot_kind u v (joined g.edges u) (joined g.edges v)) g.vertices)
    (pivot_adjacent (joined g.edges) u v)

abbrev pub common_neighbours : Graph → ℕ → ℕ → List ℕ
common_neighbours g u v = filter (joined g.edges v) (neighbours g u)

-- its scalar: a half, the change of each of the two, with 1-i the root of two times z^14, and a half turn of each
-- common neighbour.
-- Backens and others (Quantum 5, 421, 2021) give the rewrite up to a scalar; the exact one follows from the values of
-- the effects before and after
abbrev pub pivot_scalar_in : Plane → ℕ → Scalar
pivot_scalar_in XY k = one_scalar
pivot_scalar_in XZ k = record { root2 = pos 1; turn = sum_of_phases k 14 }
pivot_scalar_in YZ k = root_of_two_to (pos 2)

abbrev pub pivot_scalar : Graph → ℕ → ℕ → Scalar
pivot_scalar g u v =
    product_of_scalars (root_of_two_to (negsuc 1)) (product_of_scalars
    (product_of_scalars (pivot_scalar_in (plane_of g u) (phase_of g u)) (pivot_scalar_in (plane_of g v) (phase_of g v)))
    (turn_by (half_powers g (common_neighbours g u v))))

-- what it does to the counts: XY and YZ are exchanged at u and v alone
pub record CountsAfterPivot (g : Graph) (u v : ℕ) (h : Graph) : Type 0 where
  pub odd_phases : odd_phases h ≡ odd_phases g
  pub even_interior : even_interior h ≡ even_interior g
  pub not_XY : not_XY h + one_if (is_YZ (plane_of g u)) + one_if (is_YZ (plane_of g v)) ≡
      not_XY g + one_if (is_XY (plane_of g u)) + one_if (is_XY (plane_of g v))
