-- What steps make of a graph with its flow, one after the other.
use Rattle.std.specs.Prelude.{◌≡◌, List, [], ◌∷◌}
use Rattle.zx_calculus.specs.Graph.{Graph}
use Rattle.gflow_laws.specs.Flow.{Correction}
use Rattle.gflow_laws.specs.Rewritten.{IsRewritten}
use Rattle.graph_rewrites.specs.declared.step.Step.{Step}
use Rattle.graph_rewrites.specs.Steps.{step_named}

-- a graph, and the flow that is kept beside it
pub record State : Type 0 where
  pub graph : Graph
  pub flow : List Correction

-- t is what `apply` makes of s by this step where it answers Ok
abbrev pub IsApplied : State → Step → State → Type 0
IsApplied s step t = IsRewritten s.graph s.flow (step_named step) t.graph t.flow

-- t is what `apply` makes of s by these steps where it answers Ok each time
abbrev pub AreApplied : State → List Step → State → Type 0
AreApplied s [] t = s ≡ t
AreApplied s (step ∷ steps) t = (k : State) × IsApplied s step k × AreApplied k steps t
