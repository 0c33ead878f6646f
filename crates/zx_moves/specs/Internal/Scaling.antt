-- Scalars that steps have so far, and what moves come to.
use Rattle.std.specs.Prelude.{◌≡◌, ℕ, List, length}
use Rattle.zx_model.specs.Scalar.{IsWithin}
use Rattle.zx_model.specs.declared.scalar.Scalar.{Scalar}
use Rattle.zx_calculus.specs.Graph.{Graph}
use Rattle.zx_calculus.specs.Reduced.{IsReduced}
use Rattle.zx_calculus.specs.StepScalars.{IsSumTimes}
use Rattle.gflow_laws.specs.Flow.{Correction, IsFlow}
use Rattle.zx_moves.specs.Moving.{GainsMoves}
use Rattle.zx_moves.specs.Scaling.{most_exponent}
use Rattle.zx_moves.specs.declared.made.Made.{Made}
use Rattle.graph_rewrites.specs.declared.step.Step.{Step}

-- the sum of g is s times that of h, with as many ends, and the exponent of the root of two in s is at most n
pub record Scales (g : Graph) (n : ℕ) (s : Scalar) (h : Graph) : Type 0 where
  pub sum : IsSumTimes g s h
  pub small : IsWithin n s
  pub inputs : length h.inputs ≡ length g.inputs
  pub outputs : length h.outputs ≡ length g.outputs

-- the moves that a trace gained lead from g to the reduced graph h, of which the table is a flow
pub record IsMade (g : Graph) (before : List Step) (made : Made) (h : Graph) (table : List Correction)
    (after : List Step) : Type 0 where
  pub reduced : IsReduced h
  pub flow : IsFlow h table
  pub moves : GainsMoves g h before after 0 made.moves
  pub scalar : Scales g (most_exponent g) made.scalar h
