-- The two splits, by the side of the end.
use Rattle.std.specs.Prelude.{ℕ}
use Rattle.zx_calculus.specs.Steps.{Step, SplitInput, SplitOutput}
use Rattle.open_graph.specs.declared.side.Side.{Side}
use Rattle.open_graph.specs.declared.side.Side.TheVariants.{Input, Output}

-- the split of the end at b
abbrev pub split_of : Side → ℕ → Step
split_of Input b = SplitInput b
split_of Output b = SplitOutput b
