-- The deletion of a vertex of whole half turns.
-- Backens and others (Quantum 5, 421, 2021), on eliminating Clifford vertices.
use Rattle.std.specs.Prelude.{◌≡◌, ◌≢◌, ◌+◌, ℕ, pos, Bool, if◌then◌else◌, not, ◌&&◌, ◌==◌}
use Rattle.zx_model.specs.Phase.{half_turn, quarter_turn, is_half_turns, IsHalfTurns}
use Rattle.zx_model.specs.Bits.{member}
use Rattle.zx_model.specs.Scalar.{product_of_scalars}
use Rattle.zx_model.specs.declared.scalar.Scalar.{Scalar}
use Rattle.zx_calculus.specs.Graph.{Plane, XY, XZ, YZ, Kind, Graph, ids, joined, plane_of, phase_of, is_XY, IsVertex}
use Rattle.zx_calculus.specs.Graph.{neighbours, with_kinds, without}
use Rattle.zx_calculus.specs.Turns.{half_turned}
use Rattle.zx_calculus.specs.Adjacency.{adjacent_graph}
use Rattle.zx_calculus.specs.Edits.{KeepsEnds}
use Rattle.zx_calculus.specs.Scalars.{root_of_two_to, turn_by, half_powers}
use Rattle.zx_calculus.specs.Counts.{odd_phases, even_interior, not_XY}

-- where the deleted vertex has a half turn, each of its neighbours gets one
abbrev pub delete_kind : ℕ → (ℕ → Bool) → ℕ → Kind → Kind
delete_kind phase near p kind = if (phase == half_turn) && near p then half_turned kind else kind

-- u is an XZ or YZ vertex whose phase is 0 or a half turn: it can be deleted
pub record IsDeletable (g : Graph) (u : ℕ) : Type 0 where
  pub there : IsVertex g u
  pub plane : plane_of g u ≢ XY
  pub phase : IsHalfTurns (phase_of g u)

-- h is g after u went, an XZ or YZ vertex of phase 0 or of a half turn, which then each of its neighbours gets
pub record IsDelete (g : Graph) (u : ℕ) (h : Graph) : Type 0 where
  pub deletable : IsDeletable g u
  pub vertices : h.vertices ≡ with_kinds (delete_kind (phase_of g u) (joined g.edges u)) (without u g.vertices)
  pub edges : (p q : ℕ) → p ≢ u → q ≢ u → joined h.edges p q ≡ joined g.edges p q
  pub frame : KeepsEnds g h

-- whether it can be deleted
abbrev pub may_delete : Graph → ℕ → Bool
may_delete g u = (member u (ids g.vertices) && not (is_XY (plane_of g u))) && is_half_turns (phase_of g u)

-- the graph without it
abbrev pub deleted_graph : Graph → ℕ → Graph
deleted_graph g u =
    adjacent_graph g (with_kinds (delete_kind (phase_of g u) (joined g.edges u)) (without u g.vertices))
    (joined g.edges)

-- its scalar: 2, or with a half turn also i in the plane XZ, and a half turn of each neighbour.
-- Backens and others (Quantum 5, 421, 2021) give the rewrite up to a scalar; the exact one is the value of the
-- effect at the label where it is not 0
abbrev pub delete_scalar_in : Plane → Scalar
delete_scalar_in XY = root_of_two_to (pos 2)
delete_scalar_in XZ = record { root2 = pos 2; turn = quarter_turn }
delete_scalar_in YZ = root_of_two_to (pos 2)

abbrev pub delete_scalar : Graph → ℕ → Scalar
delete_scalar g u =
    if phase_of g u == half_turn
    then product_of_scalars (delete_scalar_in (plane_of g u))
    (turn_by (half_powers g (neighbours g u)))
    else root_of_two_to (pos 2)

-- what it does to the counts: u was interior and of an even phase, and not XY
pub record CountsAfterDeletion (g : Graph) (u : ℕ) (h : Graph) : Type 0 where
  pub odd_phases : odd_phases h ≡ odd_phases g
  pub even_interior : even_interior h + 1 ≡ even_interior g
  pub not_XY : not_XY h + 1 ≡ not_XY g
