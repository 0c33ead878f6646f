-- What the search finds at a vertex, by the places of kinds.
use Rattle.std.specs.Prelude.{◌≡◌, ◌<◌, ◌+◌, ◌*◌, ℕ, Bool, true, Some, not, ◌&&◌, ◌==◌, nat_eq, slice_get}
use Rattle.std.specs.Int.{bit_at}
use Rattle.std.specs.Cmp.Lexicographic.{pointwise}
use Rattle.zx_model.specs.Phase.{IsOdd}
use Rattle.zx_calculus.specs.Graph.{XY, Graph, plane_of, phase_of, neighbours}
use Rattle.zx_calculus.specs.Deletions.{IsDeletable}
use Rattle.zx_calculus.specs.Gadgets.{is_gadget}
use Rattle.zx_calculus.specs.Moves.{IsQuarterGadget, IsInXZ, IsQuarterSpider, IsHalfSpider, IsInnerPivot}
use Rattle.zx_calculus.specs.Moves.{IsBoundaryPivot, IsGadgetPair, IsGadgetOf, AreTwins}
use Rattle.zx_moves.specs.declared.moves.Move.{Move}
use Rattle.zx_moves.specs.declared.moves.Kind.{Kind}
use Rattle.zx_moves.specs.declared.moves.Kind.TheVariants as kinds
use Rattle.zx_moves.specs.declared.moves.TheConstants.{KINDS}
use Rattle.zx_moves.specs.Search.{AppliesAt, kind_of}

-- a move of this kind that applies
pub record IsMoveOf (g : Graph) (k : Kind) (m : Move) : Type 0 where
  pub applies : AppliesAt g m
  pub kind : kind_of m ≡ k

-- u alone is such that a move of this kind may begin there
abbrev pub MayBegin : Graph → Kind → ℕ → Type 0
MayBegin g kinds.Delete u = IsDeletable g u
MayBegin g kinds.QuarterGadget u = IsQuarterGadget g u
MayBegin g kinds.FromXZ u = IsInXZ g u
MayBegin g kinds.QuarterSpider u = IsQuarterSpider g u
MayBegin g kinds.InnerPivot u = IsHalfSpider g u
MayBegin g kinds.BoundaryPivot u = IsHalfSpider g u
MayBegin g kinds.GadgetPair u = is_gadget g u ≡ true
MayBegin g kinds.LoneGadget u = IsGadgetOf g u 0
MayBegin g kinds.SingleGadget u = IsGadgetOf g u 1
MayBegin g kinds.Twins u = is_gadget g u ≡ true

-- no move of this kind applies at u, of twins none where u has neighbours: without any it is of an earlier kind
abbrev pub NoneAt : Graph → Kind → ℕ → Type 0
NoneAt g kinds.Delete u = ¬ IsDeletable g u
NoneAt g kinds.QuarterGadget u = ¬ IsQuarterGadget g u
NoneAt g kinds.FromXZ u = ¬ IsInXZ g u
NoneAt g kinds.QuarterSpider u = ¬ IsQuarterSpider g u
NoneAt g kinds.InnerPivot u = (v : ℕ) → ¬ IsInnerPivot g u v
NoneAt g kinds.BoundaryPivot u = (v : ℕ) → ¬ IsBoundaryPivot g u v
NoneAt g kinds.GadgetPair u = (v : ℕ) → ¬ IsGadgetPair g u v
NoneAt g kinds.LoneGadget u = ¬ IsGadgetOf g u 0
NoneAt g kinds.SingleGadget u = ¬ IsGadgetOf g u 1
NoneAt g kinds.Twins u = (v : ℕ) → ¬ IsGadgetOf g u 0 → ¬ AreTwins g u v

-- u is XY and of an odd phase
pub record IsSettled (g : Graph) (u : ℕ) : Type 0 where
  pub plane : plane_of g u ≡ XY
  pub phase : IsOdd (phase_of g u)

-- v is a YZ vertex other than u, of the same neighbours
abbrev pub is_twin : Graph → ℕ → ℕ → Bool
is_twin g u v = not (v == u) && (is_gadget g v && pointwise nat_eq (neighbours g v) (neighbours g u))

-- of the 64 vertices from 64 * index on, those of which a word tells have all twins of u among them
abbrev pub TellsTwins : Graph → ℕ → ℕ → ℕ → Type 0
TellsTwins g u index word = (k : ℕ) → k < 64 → is_twin g u (64 * index + k) ≡ true → bit_at word k ≡ 1

-- no move of one of the first n kinds applies at u
abbrev pub NoneBefore : Graph → ℕ → ℕ → Type 0
NoneBefore g n u = (i : ℕ) (k : Kind) → i < n → slice_get KINDS i ≡ Some k → NoneAt g k u

-- a move that applies, of the kind at this place
pub record IsMoveAt (g : Graph) (place : ℕ) (m : Move) : Type 0 where
  pub applies : AppliesAt g m
  pub kind : slice_get KINDS place ≡ Some (kind_of m)
