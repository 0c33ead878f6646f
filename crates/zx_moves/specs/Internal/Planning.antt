-- Steps that can be done one after the other, whatever graph each leads to, and those of a move that are done.
use Rattle.std.specs.Prelude.{⊤, ◌≡◌, ◌++◌, true, List, [], ◌∷◌, map}
use Rattle.zx_calculus.specs.Graph.{Graph}
use Rattle.zx_calculus.specs.Steps as calculus
use Rattle.zx_calculus.specs.Steps.{IsStep, IsRun, allowed}
use Rattle.zx_moves.specs.declared.moves.Move.{Move}
use Rattle.graph_rewrites.specs.declared.step.Step.{Step}
use Rattle.graph_rewrites.specs.Steps.{step_named}
use Rattle.zx_moves.specs.Moving.{steps_of}

-- the first is allowed in g, and the others in whatever it leads to
abbrev pub AreAllowed : Graph → List calculus.Step → Type 0
AreAllowed g [] = ⊤
AreAllowed g (s ∷ rest) = (allowed g s ≡ true) × ((h : Graph) → IsStep g s h → AreAllowed h rest)

-- a trace gained the steps of a move from g to h
pub record GainsMove (g : Graph) (m : Move) (h : Graph) (before after : List Step) : Type 0 where
  pub gained : List Step
  pub trace : after ≡ before ++ gained
  pub planned : map step_named gained ≡ steps_of g m
  pub run : IsRun g (steps_of g m) h
