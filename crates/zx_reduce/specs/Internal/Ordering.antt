-- A graph with an order along which it has a flow, where the order is told by ranks.
-- Backens, Miller-Bakewell, de Felice, Lobski and van de Wetering (Quantum 5, 421, 2021), on the order of a gflow.
use Rattle.std.specs.Prelude.{◌≤◌, ℕ, List}
use Rattle.zx_calculus.specs.Graph.{Graph, WellFormed}
use Rattle.move_laws.specs.Ranks.{HasFlowBy, rank_in}

-- the graph, and the ranks of its vertices by number, from `low` on and below `high`
pub record Ordered : Type 0 where
  pub graph : Graph
  pub ranks : List ℕ
  pub low : ℕ
  pub high : ℕ

-- the graph has a flow in whose order the ranks rise
pub record IsOrdered (o : Ordered) : Type 0 where
  pub well_formed : WellFormed o.graph
  pub bounds : o.low ≤ o.high
  pub flow : HasFlowBy o.graph (rank_in o.ranks) o.low o.high
