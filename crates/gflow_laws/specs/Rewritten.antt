-- What every rewrite of a graph with its flow promises.
use Rattle.std.specs.Prelude.{◌≤◌, List}
use Rattle.zx_calculus.specs.Graph.{Graph, WellFormed}
use Rattle.zx_calculus.specs.Steps.{Step, IsStep}
use Rattle.zx_calculus.specs.StepScalars.{IsSumTimes, step_scalar}
use Rattle.zx_calculus.specs.Counts.{odd_phases}
use Rattle.gflow_laws.specs.Flow.{Correction, IsFlow, SameSets}
use Rattle.gflow_laws.specs.Steps.{table_after}

-- h with the table `after` is g with the table `before` after the step: a well-formed graph with a flow of it, which
-- has no more odd phases; the sum of g is the step's scalar times that of h
pub record IsRewritten (g : Graph) (before : List Correction) (s : Step) (h : Graph) (after : List Correction)
    : Type 0 where
  pub step : IsStep g s h
  pub table : SameSets after (table_after g s before)
  pub valid : WellFormed h
  pub flow : IsFlow h after
  pub scaled : IsSumTimes g (step_scalar g s) h
  pub odd : odd_phases h ≤ odd_phases g
