-- Phases while they are added up at their places.
use Rattle.std.proofs.Common.{◌≡◌, ℕ, ◌+◌, ◌%◌, ◌<◌, List, length}
use Rattle.std.specs.Prelude.{slice_index_or}
use Rattle.zx_model.specs.Phase.{turn}
use Rattle.graph_like.specs.Internal.Phases.{AreBelowATurn}

-- with what is left, this comes to what the old ones come to with all
pub record IsAdding (old new : List ℕ) (left all : ℕ → ℕ) : Type 0 where
  pub same : length new ≡ length old
  pub below : AreBelowATurn new
  pub sums : (p o : ℕ) → p < length old → (slice_index_or new p o + left p) % turn ≡ (slice_index_or old p o + all p) % turn
