-- By which scalar each rewrite changes the sum: the sum before is that scalar times the sum after.
use Rattle.std.specs.Prelude.{length}
use Rattle.zx_model.specs.Proportional.{Proportional}
use Rattle.zx_model.specs.Scalar.{IsScaled}
use Rattle.zx_model.specs.declared.scalar.Scalar.{Scalar}
use Rattle.zx_calculus.specs.Graph.{Graph}
use Rattle.zx_calculus.specs.Sum.{graph_sum}
use Rattle.zx_calculus.specs.Complements.{complement_scalar}
use Rattle.zx_calculus.specs.Deletions.{delete_scalar}
use Rattle.zx_calculus.specs.Pivots.{pivot_scalar}
use Rattle.zx_calculus.specs.Splits.{mark_of, split_scalar}
use Rattle.zx_calculus.specs.Gadgets.{gadget_scalar}
use Rattle.zx_calculus.specs.Steps.{Step, LocalComplement, Delete, Pivot, SplitInput, SplitOutput, DropLone, FuseInto}
use Rattle.zx_calculus.specs.Steps.{FuseTwin}

-- the sum of g is s times that of h
abbrev pub IsSumTimes : Graph → Scalar → Graph → Type 0
IsSumTimes g s h = IsScaled (length g.inputs) (length g.outputs) (graph_sum g) s (graph_sum h)

-- the sum of g is that of h, up to a number other than 0
abbrev pub KeepsMap : Graph → Graph → Type 0
KeepsMap g h = Proportional (length g.inputs) (length g.outputs) (graph_sum g) (graph_sum h)

abbrev pub step_scalar : Graph → Step → Scalar
step_scalar g (LocalComplement u) = complement_scalar g u
step_scalar g (Delete u) = delete_scalar g u
step_scalar g (Pivot u v) = pivot_scalar g u v
step_scalar g (SplitInput b) = split_scalar (mark_of g.inputs b)
step_scalar g (SplitOutput b) = split_scalar (mark_of g.outputs b)
step_scalar g (DropLone u) = gadget_scalar
step_scalar g (FuseInto u) = gadget_scalar
step_scalar g (FuseTwin u v) = gadget_scalar
