-- What every list of rewrites keeps.
use Rattle.std.specs.Prelude.{◌≤◌, List, length}
use Rattle.zx_model.specs.Proportional.{Proportional}
use Rattle.zx_calculus.specs.Graph.{Graph, WellFormed}
use Rattle.zx_calculus.specs.Sum.{graph_sum}
use Rattle.zx_calculus.specs.Counts.{odd_phases}
use Rattle.gflow_laws.specs.Flow.{Correction, IsFlow}

-- h is a well-formed graph with a flow and with no more odd phases than g, whose sum is that of g up to a nonzero
-- scalar
pub record IsKept (g h : Graph) : Type 0 where
  pub well_formed : WellFormed h
  pub proportional : Proportional (length g.inputs) (length g.outputs) (graph_sum g) (graph_sum h)
  pub table : List Correction
  pub flow : IsFlow h table
  pub no_more_odd : odd_phases h ≤ odd_phases g
