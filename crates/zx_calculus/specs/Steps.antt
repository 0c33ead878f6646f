-- One rewrite of an open graph, and lists of rewrites: which it is, where it is allowed, and what it makes.
use Rattle.std.specs.Prelude.{◌≡◌, ℕ, Bool, List, [], ◌∷◌}
use Rattle.zx_calculus.specs.Graph.{Graph}
use Rattle.zx_calculus.specs.Complements.{IsLocalComplement, may_complement, complemented_graph}
use Rattle.zx_calculus.specs.Deletions.{IsDelete, may_delete, deleted_graph}
use Rattle.zx_calculus.specs.Pivots.{IsPivot, may_pivot, pivoted_graph}
use Rattle.zx_calculus.specs.Splits.{IsSplitInput, IsSplitOutput, may_split_input, may_split_output, split_input_graph}
use Rattle.zx_calculus.specs.Splits.{split_output_graph, new_vertex}
use Rattle.zx_calculus.specs.Gadgets.{IsDropLone, IsFuseInto, IsFuseTwin, may_drop_lone, may_fuse_into, may_fuse_twin}
use Rattle.zx_calculus.specs.Gadgets.{dropped_graph, fused_into_graph, fused_twin_graph}

-- a rewrite by its name and the ids of the vertices that it is about
pub data Step : Type 0 where
  LocalComplement Delete : ℕ → Step
  Pivot : ℕ → ℕ → Step
  SplitInput SplitOutput DropLone FuseInto : ℕ → Step
  FuseTwin : ℕ → ℕ → Step

-- h is g after the step; where its side condition fails there is no such h
abbrev pub IsStep : Graph → Step → Graph → Type 0
IsStep g (LocalComplement u) h = IsLocalComplement g u h
IsStep g (Delete u) h = IsDelete g u h
IsStep g (Pivot u v) h = IsPivot g u v h
IsStep g (SplitInput b) h = IsSplitInput g b (new_vertex g) h
IsStep g (SplitOutput b) h = IsSplitOutput g b (new_vertex g) h
IsStep g (DropLone u) h = IsDropLone g u h
IsStep g (FuseInto u) h = IsFuseInto g u h
IsStep g (FuseTwin u v) h = IsFuseTwin g u v h

-- h is g after the steps, one after the other
abbrev pub IsRun : Graph → List Step → Graph → Type 0
IsRun g [] h = g ≡ h
IsRun g (s ∷ steps) h = (k : Graph) × (IsStep g s k) × IsRun k steps h

-- the side condition of a rewrite
abbrev pub allowed : Graph → Step → Bool
allowed g (LocalComplement u) = may_complement g u
allowed g (Delete u) = may_delete g u
allowed g (Pivot u v) = may_pivot g u v
allowed g (SplitInput b) = may_split_input g b
allowed g (SplitOutput b) = may_split_output g b
allowed g (DropLone u) = may_drop_lone g u
allowed g (FuseInto u) = may_fuse_into g u
allowed g (FuseTwin u v) = may_fuse_twin g u v

-- the graph after a rewrite
abbrev pub after : Step → Graph → Graph
after (LocalComplement u) g = complemented_graph g u
after (Delete u) g = deleted_graph g u
after (Pivot u v) g = pivoted_graph g u v
after (SplitInput b) g = split_input_graph g b (new_vertex g)
after (SplitOutput b) g = split_output_graph g b (new_vertex g)
after (DropLone u) g = dropped_graph g u
after (FuseInto u) g = fused_into_graph g u
after (FuseTwin u v) g = fused_twin_graph g u v
