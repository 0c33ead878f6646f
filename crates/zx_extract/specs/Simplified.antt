-- Circuits of reduced graphs: how many gates they have, and what is said of one that a graph is turned into.
-- Kissinger and van de Wetering (arXiv 1903.10477, 2020), on simplification as optimisation.
use Rattle.std.specs.Prelude.{◌≤◌, ℕ, ◌+◌, ◌*◌, List}
use Rattle.zx_calculus.specs.Graph.{Graph}
use Rattle.zx_calculus.specs.Steps.{Step, IsRun}
use Rattle.zx_calculus.specs.Counts.{odd_phases}
use Rattle.zx_calculus.specs.Reduced.{IsReduced}
use Rattle.zx_gates.specs.Circuit.{Circuit, gate_odd_phases}

-- the most gates of a reduced graph of n inputs and as many outputs, with at most t odd phases
abbrev pub gate_bound : ℕ → ℕ → ℕ
gate_bound n t = 4 * n * n + 6 * n + 3 * n * t

-- Rewrites lead from the graph to a reduced one, which has at least as many odd phases as the circuit that is made.
pub record IsThroughReduced (start : Graph) (made : Circuit) : Type 0 where
  pub steps : List Step
  pub end : Graph
  pub run : IsRun start steps end
  pub reduced : IsReduced end
  pub odd : gate_odd_phases made.gates ≤ odd_phases end
