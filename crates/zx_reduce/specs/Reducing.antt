-- What simplification makes of a graph with a flow.
-- Kissinger and van de Wetering, "Reducing the number of non-Clifford gates in quantum circuits" (Phys. Rev. A 102,
-- 022406, 2020).
use Rattle.std.specs.Prelude.{◌≡◌, ◌≤◌, List, length, map}
use Rattle.zx_model.specs.Scalar.{IsWithin}
use Rattle.zx_model.specs.declared.scalar.Scalar.{Scalar}
use Rattle.zx_calculus.specs.Counts.{odd_phases}
use Rattle.zx_calculus.specs.StepScalars.{KeepsMap, IsSumTimes}
use Rattle.zx_calculus.specs.Graph.{Graph, WellFormed}
use Rattle.zx_calculus.specs.Reduced.{IsReduced}
use Rattle.zx_calculus.specs.Steps.{IsRun}
use Rattle.gflow_laws.specs.Flow.{Correction, IsFlow}
use Rattle.graph_rewrites.specs.Steps.{step_named}
use Rattle.graph_rewrites.specs.declared.step.Step.{Step}
use Rattle.zx_reduce.specs.Scaling.{most_steps, most_reduced_root2}

-- The steps lead from g to the reduced graph h, of which the table is a flow, with a proportional sum, as many ends and
-- no more odd phases. The sum of g is s times that of h.
pub record Reduces (g h : Graph) (table : List Correction) (steps : List Step) (s : Scalar) : Type 0 where
  pub run : IsRun g (map step_named steps) h
  pub reduced : IsReduced h
  pub well_formed : WellFormed h
  pub map : KeepsMap g h
  pub scalar : IsSumTimes g s h
  pub small : IsWithin most_reduced_root2 s
  pub flow : IsFlow h table
  pub odd : odd_phases h ≤ odd_phases g
  pub inputs : length h.inputs ≡ length g.inputs
  pub outputs : length h.outputs ≡ length g.outputs
  pub few_steps : length steps ≤ most_steps
