-- Moves that values of the code name, and which of them comes first.
use Rattle.std.specs.Prelude.{◌≡◌, ◌<◌, ℕ, List, [], ◌∷◌, Some, slice_get}
use Rattle.zx_calculus.specs.Graph.{Graph}
use Rattle.zx_calculus.specs.Deletions.{IsDeletable}
use Rattle.zx_calculus.specs.Moves.{IsQuarterGadget, IsInXZ, IsQuarterSpider, IsInnerPivot}
use Rattle.zx_calculus.specs.Moves.{IsBoundaryPivot, IsGadgetPair, IsGadgetOf, AreTwins}
use Rattle.zx_moves.specs.declared.moves.Move.{Move}
use Rattle.zx_moves.specs.declared.moves.Move.TheVariants.{Delete, QuarterGadget, FromXZ, QuarterSpider, InnerPivot}
use Rattle.zx_moves.specs.declared.moves.Move.TheVariants.{BoundaryPivot, GadgetPair, LoneGadget, SingleGadget, Twins}
use Rattle.zx_moves.specs.declared.moves.Kind.{Kind}
use Rattle.zx_moves.specs.declared.moves.Kind.TheVariants as kinds

-- the graph has the place that the move names
abbrev pub AppliesAt : Graph → Move → Type 0
AppliesAt g (Delete u) = IsDeletable g u
AppliesAt g (QuarterGadget u) = IsQuarterGadget g u
AppliesAt g (FromXZ u) = IsInXZ g u
AppliesAt g (QuarterSpider u) = IsQuarterSpider g u
AppliesAt g (InnerPivot u v) = IsInnerPivot g u v
AppliesAt g (BoundaryPivot u v) = IsBoundaryPivot g u v
AppliesAt g (GadgetPair u v) = IsGadgetPair g u v
AppliesAt g (LoneGadget u) = IsGadgetOf g u 0
AppliesAt g (SingleGadget u) = IsGadgetOf g u 1
AppliesAt g (Twins u v) = AreTwins g u v

-- the kind of a move
abbrev pub kind_of : Move → Kind
kind_of (Delete u) = kinds.Delete
kind_of (QuarterGadget u) = kinds.QuarterGadget
kind_of (FromXZ u) = kinds.FromXZ
kind_of (QuarterSpider u) = kinds.QuarterSpider
kind_of (InnerPivot u v) = kinds.InnerPivot
kind_of (BoundaryPivot u v) = kinds.BoundaryPivot
kind_of (GadgetPair u v) = kinds.GadgetPair
kind_of (LoneGadget u) = kinds.LoneGadget
kind_of (SingleGadget u) = kinds.SingleGadget
kind_of (Twins u v) = kinds.Twins

-- the kinds in the order in which `reduce` tries them: a move of one is made only where none of those before it applies
-- anywhere
abbrev pub kinds_in_order : List Kind
kinds_in_order =
    kinds.Delete ∷ kinds.QuarterGadget ∷ kinds.FromXZ ∷ kinds.QuarterSpider ∷ kinds.InnerPivot
    ∷ kinds.BoundaryPivot ∷ kinds.GadgetPair ∷ kinds.LoneGadget ∷ kinds.SingleGadget ∷ kinds.Twins ∷ []

-- k stands before l in that order
pub record ComesBefore (k l : Kind) : Type 0 where
  pub place : ℕ
  pub later_place : ℕ
  pub kind : slice_get kinds_in_order place ≡ Some k
  pub later_kind : slice_get kinds_in_order later_place ≡ Some l
  pub earlier : place < later_place

-- no move of a kind before that of m applies anywhere
abbrev pub IsOfFirstKind : Graph → Move → Type 0
IsOfFirstKind g m = (other : Move) → ComesBefore (kind_of other) (kind_of m) → ¬ AppliesAt g other
