-- Local complementation about a vertex.
-- Duncan and others (Quantum 4, 279, 2020), on local complementation; Backens and others (Quantum 5, 421, 2021), on the
-- same in all three planes.
use Rattle.std.specs.Prelude.{◌≡◌, ◌≢◌, ◌+◌, ℕ, pos, negsuc, Bool, if◌then◌else◌, ◌&&◌, ◌==◌}
use Rattle.zx_model.specs.Phase.{sum_of_phases}
use Rattle.zx_model.specs.Bits.{xor, member, one_if}
use Rattle.zx_model.specs.Scalar.{one_scalar, product_of_scalars}
use Rattle.zx_model.specs.declared.scalar.Scalar.{Scalar}
use Rattle.zx_calculus.specs.Graph.{Plane, XY, XZ, YZ, Kind, Graph, ids, joined, plane_of, phase_of, is_XY, is_XZ}
use Rattle.zx_calculus.specs.Graph.{is_interior, neighbours, IsVertex, Interior, with_kinds}
use Rattle.zx_calculus.specs.Turns.{quarter_turned, complemented}
use Rattle.zx_calculus.specs.Adjacency.{adjacent_graph}
use Rattle.zx_calculus.specs.Edits.{KeepsEnds}
use Rattle.zx_calculus.specs.Scalars.{turn_by, quarter_powers}
use Rattle.zx_calculus.specs.Counts.{odd_phases, even_interior, not_XY}

-- each neighbour of u gets a quarter turn, and u its own change
abbrev pub complement_kind : ℕ → (ℕ → Bool) → ℕ → Kind → Kind
complement_kind u near p kind = if p == u then complemented kind else if near p then quarter_turned kind else kind

-- h is g after a local complement about the interior vertex u: every edge between two neighbours of u is
-- toggled, each neighbour gets a quarter turn, and u its own change
pub record IsLocalComplement (g : Graph) (u : ℕ) (h : Graph) : Type 0 where
  pub there : IsVertex g u
  pub interior : Interior g u
  pub vertices : h.vertices ≡ with_kinds (complement_kind u (joined g.edges u)) g.vertices
  pub edges : (p q : ℕ) → p ≢ q →
      joined h.edges p q ≡ xor (joined g.edges p q) (joined g.edges u p && joined g.edges u q)
  pub frame : KeepsEnds g h

-- whether it can be done: u is an interior vertex
abbrev pub may_complement : Graph → ℕ → Bool
may_complement g u = member u (ids g.vertices) && is_interior g u

-- the graph that it makes
abbrev pub complemented_graph : Graph → ℕ → Graph
complemented_graph g u =
    adjacent_graph g (with_kinds (complement_kind u (joined g.edges u)) g.vertices)
    (λ p q. xor (joined g.edges p q) (joined g.edges u p && joined g.edges u q))

-- its scalar: the change of u itself, with 1+i the root of two times z^2 and 1-i the root of two times z^14, and a
-- quarter turn of each neighbour.
-- Backens and others (Quantum 5, 421, 2021) give the rewrite up to a scalar; the exact one follows from the values of
-- the effects before and after
abbrev pub complement_scalar_in : Plane → ℕ → Scalar
complement_scalar_in XY k = record { root2 = negsuc 0; turn = 14 }
complement_scalar_in XZ k = record { root2 = pos 1; turn = sum_of_phases k 14 }
complement_scalar_in YZ k = one_scalar

abbrev pub complement_scalar : Graph → ℕ → Scalar
complement_scalar g u =
    product_of_scalars (complement_scalar_in (plane_of g u) (phase_of g u))
    (turn_by (quarter_powers g (neighbours g u)))

-- what it does to the counts: u alone becomes XY, or is XY no more
pub record CountsAfterComplement (g : Graph) (u : ℕ) (h : Graph) : Type 0 where
  pub odd_phases : odd_phases h ≡ odd_phases g
  pub even_interior : even_interior h ≡ even_interior g
  pub not_XY : not_XY h + one_if (is_XZ (plane_of g u)) ≡ not_XY g + one_if (is_XY (plane_of g u))
