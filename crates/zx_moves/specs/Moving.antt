-- What moves are made of: the rewrites of each in their order, and moves one after the other.
use Rattle.std.specs.Prelude.{◌≡◌, ◌+◌, ◌*◌, ◌++◌, ℕ, zero, suc, if◌then◌else◌, List, [], ◌∷◌, map}
use Rattle.zx_model.specs.Phase.{is_half_turns, is_quarter_turn}
use Rattle.zx_calculus.specs.Graph.{Graph, phase_of}
use Rattle.zx_calculus.specs.Counts.{has_input, has_output, even_interior, odd_phases, not_XY}
use Rattle.zx_calculus.specs.Steps as calculus
use Rattle.zx_calculus.specs.Steps.{IsRun}
use Rattle.zx_moves.specs.declared.moves.Move.{Move}
use Rattle.zx_moves.specs.declared.moves.Move.TheVariants.{Delete, QuarterGadget, FromXZ, QuarterSpider, InnerPivot}
use Rattle.zx_moves.specs.declared.moves.Move.TheVariants.{BoundaryPivot, GadgetPair, LoneGadget, SingleGadget, Twins}
use Rattle.graph_rewrites.specs.declared.step.Step.{Step}
use Rattle.zx_moves.specs.Search.{AppliesAt, IsOfFirstKind}
use Rattle.graph_rewrites.specs.Steps.{step_named}

-- the splits of the ends of b, of its input before its output
abbrev pub splits_of : Graph → ℕ → List calculus.Step
splits_of g b =
    (if has_input g b then calculus.SplitInput b ∷ [] else [])
    ++ (if has_output g b then calculus.SplitOutput b ∷ [] else [])

-- how a YZ vertex of this phase goes: at once, after a local complement, or not at all
abbrev pub removal_of : ℕ → ℕ → List calculus.Step
removal_of phase b =
    if is_half_turns phase then calculus.Delete b ∷ []
    else if is_quarter_turn phase then calculus.LocalComplement b ∷ calculus.Delete b ∷ [] else []

-- the rewrites that a move consists of
abbrev pub steps_of : Graph → Move → List calculus.Step
steps_of g (Delete u) = calculus.Delete u ∷ []
steps_of g (QuarterGadget u) = calculus.LocalComplement u ∷ calculus.Delete u ∷ []
steps_of g (FromXZ u) = calculus.LocalComplement u ∷ []
steps_of g (QuarterSpider u) = calculus.LocalComplement u ∷ calculus.Delete u ∷ []
steps_of g (InnerPivot u v) = calculus.Pivot u v ∷ calculus.Delete u ∷ []
steps_of g (BoundaryPivot u b) =
    splits_of g b ++ (calculus.Pivot u b ∷ calculus.Delete u ∷ removal_of (phase_of g b) b)
steps_of g (GadgetPair u v) = calculus.Pivot u v ∷ []
steps_of g (LoneGadget u) = calculus.DropLone u ∷ []
steps_of g (SingleGadget u) = calculus.FuseInto u ∷ []
steps_of g (Twins u v) = calculus.FuseTwin u v ∷ []

-- h is g after a move of the first kind that applies anywhere
pub record IsMoved (g : Graph) (m : Move) (h : Graph) : Type 0 where
  pub applies : AppliesAt g m
  pub first : IsOfFirstKind g m
  pub run : IsRun g (steps_of g m) h

-- h is g after so many moves, which consist of these rewrites
abbrev pub AreMoves : Graph → ℕ → List calculus.Step → Graph → Type 0
AreMoves g zero steps h = (steps ≡ []) × (g ≡ h)
AreMoves g (suc n) steps h =
    (m : Move) × (k : Graph) × (rest : List calculus.Step)
    × IsMoved g m k × (steps ≡ steps_of g m ++ rest) × AreMoves k n rest h

-- how many moves a graph allows at most: each lowers this number
abbrev pub most_moves : Graph → ℕ
most_moves g = 2 * even_interior g + not_XY g + 2 * odd_phases g

-- what a trace gained are the steps of as many moves, from g to h, as the counter rose by
pub record GainsMoves (g h : Graph) (before after : List Step) (counted_before counted_after : ℕ) : Type 0 where
  pub gained : List Step
  pub count : ℕ
  pub trace : after ≡ before ++ gained
  pub counter : counted_after ≡ counted_before + count
  pub moves : AreMoves g count (map step_named gained) h

-- what a trace gained is a run from g to h
pub record GainsRun (g h : Graph) (before after : List Step) : Type 0 where
  pub gained : List Step
  pub trace : after ≡ before ++ gained
  pub run : IsRun g (map step_named gained) h

-- these steps come behind those of a trace
pub record AddsSteps (before after : List Step) (steps : List calculus.Step) : Type 0 where
  pub added : List Step
  pub trace : after ≡ before ++ added
  pub named : map step_named added ≡ steps
