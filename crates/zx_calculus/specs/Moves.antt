-- The moves of simplification: ten kinds of places at which rewrites make a graph simpler.
-- Duncan, Kissinger, Perdrix and van de Wetering (Quantum 4, 279, 2020), on simplification by local complements and
-- pivots; Kissinger and van de Wetering (arXiv 1903.10477, 2020), on gadgets; Backens and others (Quantum 5, 421,
-- 2021), on the three planes.
use Rattle.std.specs.Prelude.{◌≡◌, ◌≢◌, ℕ, true, length}
use Rattle.zx_model.specs.Phase.{IsHalfTurns, IsQuarterTurn}
use Rattle.zx_calculus.specs.Deletions.{IsDeletable}
use Rattle.zx_calculus.specs.Graph.{XY, XZ, YZ, Graph, joined, plane_of, phase_of, neighbours, IsVertex, Interior}

-- u is a YZ vertex of a quarter turn, or three: a local complement makes it deletable
pub record IsQuarterGadget (g : Graph) (u : ℕ) : Type 0 where
  pub there : IsVertex g u
  pub plane : plane_of g u ≡ YZ
  pub phase : IsQuarterTurn (phase_of g u)

-- u is an XZ vertex: a local complement makes it XY
pub record IsInXZ (g : Graph) (u : ℕ) : Type 0 where
  pub there : IsVertex g u
  pub plane : plane_of g u ≡ XZ

-- u is an interior XY vertex of a quarter turn, or three: a local complement makes it deletable
pub record IsQuarterSpider (g : Graph) (u : ℕ) : Type 0 where
  pub there : IsVertex g u
  pub interior : Interior g u
  pub plane : plane_of g u ≡ XY
  pub phase : IsQuarterTurn (phase_of g u)

-- u is an interior XY vertex of half turns
pub record IsHalfSpider (g : Graph) (u : ℕ) : Type 0 where
  pub there : IsVertex g u
  pub interior : Interior g u
  pub plane : plane_of g u ≡ XY
  pub phase : IsHalfTurns (phase_of g u)

-- u is such a vertex, and v an interior neighbour: a pivot of the two makes u deletable
pub record IsInnerPivot (g : Graph) (u v : ℕ) : Type 0 where
  pub spider : IsHalfSpider g u
  pub adjacent : joined g.edges u v ≡ true
  pub interior : Interior g v

-- u is such a vertex, v a neighbour, and each neighbour is a boundary vertex: the ends of v are split, then a pivot
pub record IsBoundaryPivot (g : Graph) (u v : ℕ) : Type 0 where
  pub spider : IsHalfSpider g u
  pub adjacent : joined g.edges u v ≡ true
  pub boundary : (p : ℕ) → joined g.edges u p ≡ true → ¬ Interior g p

-- u and v are adjacent YZ vertices: a pivot makes both XY
pub record IsGadgetPair (g : Graph) (u v : ℕ) : Type 0 where
  pub there : IsVertex g u
  pub there_too : IsVertex g v
  pub plane : plane_of g u ≡ YZ
  pub plane_too : plane_of g v ≡ YZ
  pub adjacent : joined g.edges u v ≡ true

-- u is a YZ vertex of n neighbours: where it has none it is dropped, where it has one it is fused into that
pub record IsGadgetOf (g : Graph) (u n : ℕ) : Type 0 where
  pub there : IsVertex g u
  pub plane : plane_of g u ≡ YZ
  pub legs : length (neighbours g u) ≡ n

-- u and v are different YZ vertices of equal neighbours: they are fused
pub record AreTwins (g : Graph) (u v : ℕ) : Type 0 where
  pub there : IsVertex g u
  pub there_too : IsVertex g v
  pub different : u ≢ v
  pub plane : plane_of g u ≡ YZ
  pub plane_too : plane_of g v ≡ YZ
  pub equal_neighbours : neighbours g u ≡ neighbours g v

-- no move is left
pub record IsStuck (g : Graph) : Type 0 where
  pub no_deletion : (u : ℕ) → ¬ IsDeletable g u
  pub no_quarter_gadget : (u : ℕ) → ¬ IsQuarterGadget g u
  pub no_XZ : (u : ℕ) → ¬ IsInXZ g u
  pub no_quarter_spider : (u : ℕ) → ¬ IsQuarterSpider g u
  pub no_inner_pivot : (u v : ℕ) → ¬ IsInnerPivot g u v
  pub no_boundary_pivot : (u v : ℕ) → ¬ IsBoundaryPivot g u v
  pub no_gadget_pair : (u v : ℕ) → ¬ IsGadgetPair g u v
  pub no_lone_gadget : (u : ℕ) → ¬ IsGadgetOf g u 0
  pub no_single_gadget : (u : ℕ) → ¬ IsGadgetOf g u 1
  pub no_twins : (u v : ℕ) → ¬ AreTwins g u v

-- each interior XY vertex has a neighbour, as in a graph with a flow
abbrev pub HasInnerNeighbours : Graph → Type 0
HasInnerNeighbours g = (u : ℕ) → IsVertex g u → Interior g u → plane_of g u ≡ XY → (v : ℕ) × (joined g.edges u v ≡ true)
