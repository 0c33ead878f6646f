-- The reduced form that simplification ends in.
-- Kissinger and van de Wetering (arXiv 1903.10477, 2020), on the reduced gadget form,
-- with gadgets as YZ vertices: Backens and others (Quantum 5, 421, 2021), on simplification.
use Rattle.std.specs.Prelude.{◌≡◌, ◌≢◌, ◌≤◌, ◌⊎◌, ℕ, false, length}
use Rattle.zx_model.specs.Phase.{IsOdd}
use Rattle.zx_calculus.specs.Graph.{XY, YZ, Graph, joined, plane_of, phase_of, neighbours, IsVertex, Interior}

-- every interior vertex is XY or YZ and has an odd phase; no two YZ are adjacent; each YZ has at least two
-- neighbours; no two YZ have equal neighbours
pub record IsReduced (g : Graph) : Type 0 where
  pub odd : (u : ℕ) → IsVertex g u → Interior g u → IsOdd (phase_of g u)
  pub planes : (u : ℕ) → IsVertex g u → Interior g u → (plane_of g u ≡ XY) ⊎ (plane_of g u ≡ YZ)
  pub apart : (u v : ℕ) → IsVertex g u → IsVertex g v → plane_of g u ≡ YZ → plane_of g v ≡ YZ →
      joined g.edges u v ≡ false
  pub two_neighbours : (u : ℕ) → IsVertex g u → plane_of g u ≡ YZ → 2 ≤ length (neighbours g u)
  pub no_twins : (u v : ℕ) → IsVertex g u → IsVertex g v → u ≢ v → plane_of g u ≡ YZ → plane_of g v ≡ YZ →
      neighbours g u ≢ neighbours g v
