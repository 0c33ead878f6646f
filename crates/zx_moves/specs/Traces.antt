-- What contracts see of a trace in memory.
use Rattle.std.specs.Prelude.{◌≤◌, ◌+◌, ℕ, List, length}
use Rattle.graph_rewrites.specs.declared.step.Step.{Step}

-- its steps, and how many more can be added without memory
pub record Trace : Type 0 where
  pub steps : List Step
  pub spare : ℕ

-- steps of a trace that are there, or that can be added without memory, are no fewer
abbrev pub KeepSteps : Trace → Trace → Type 0
KeepSteps before after = before.spare + length before.steps ≤ after.spare + length after.steps
