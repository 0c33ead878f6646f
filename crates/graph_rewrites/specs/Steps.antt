-- The rewrites that values of the code name.
use Rattle.zx_calculus.specs.Steps as calculus
use Rattle.graph_rewrites.specs.declared.step.Step.{Step}
use Rattle.graph_rewrites.specs.declared.step.Step.TheVariants.{LocalComplement, Delete, Pivot, SplitInput, SplitOutput}
use Rattle.graph_rewrites.specs.declared.step.Step.TheVariants.{DropLone, FuseInto, FuseTwin}

-- the rewrite of this name
abbrev pub step_named : Step → calculus.Step
step_named (LocalComplement u) = calculus.LocalComplement u
step_named (Delete u) = calculus.Delete u
step_named (Pivot u v) = calculus.Pivot u v
step_named (SplitInput b) = calculus.SplitInput b
step_named (SplitOutput b) = calculus.SplitOutput b
step_named (DropLone u) = calculus.DropLone u
step_named (FuseInto u) = calculus.FuseInto u
step_named (FuseTwin u v) = calculus.FuseTwin u v
