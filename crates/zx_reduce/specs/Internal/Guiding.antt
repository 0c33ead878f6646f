-- The order along which a graph has a flow, by ranks.
use Rattle.std.specs.Prelude.{◌≡◌, ◌<◌, ◌≤◌, ℕ, true, List}
use Rattle.zx_model.specs.Bits.{member}
use Rattle.zx_calculus.specs.Graph.{Graph}
use Rattle.move_laws.specs.Ranks.{RisesBy, HasFlowBy, rank_in}
use Rattle.zx_reduce.specs.declared.ranks.Ranks.{Ranks}

-- the graph has a flow along the order of these ranks
pub record HasFlowIn (g : Graph) (order : Ranks) : Type 0 where
  pub bounds : order.low ≤ order.high
  pub flow : HasFlowBy g (rank_in order.ranks) order.low order.high

-- the ranks rise along these vertices
pub record AreRanked (vs : List ℕ) (order : Ranks) : Type 0 where
  pub bounds : order.low ≤ order.high
  pub rises : RisesBy (rank_in order.ranks) vs
  pub from_low : (v : ℕ) → member v vs ≡ true → order.low ≤ rank_in order.ranks v
  pub below_high : (v : ℕ) → member v vs ≡ true → rank_in order.ranks v < order.high
