-- The scalars of steps that can be done one after the other.
use Rattle.std.specs.Prelude.{List}
use Rattle.zx_model.specs.declared.scalar.Scalar.{Scalar}
use Rattle.zx_calculus.specs.Graph.{Graph, WellFormed}
use Rattle.zx_calculus.specs.Steps.{Step, IsRun}
use Rattle.zx_calculus.specs.StepScalars.{IsSumTimes}

-- the sum of g is s times that of the graph to which the steps lead
abbrev pub HaveScalar : Graph → List Step → Scalar → Type 0
HaveScalar g steps s = (h : Graph) → IsRun g steps h → IsSumTimes g s h

-- the steps can be done one after the other
pub record MayRun (g : Graph) (steps : List Step) : Type 0 where
  pub formed : WellFormed g
  pub end : Graph
  pub run : IsRun g steps end
