-- A spider that is taking in its class: what holds between two steps.
use Rattle.std.proofs.Common.{◌≡◌, ◌<◌, ◌≤◌, ap, sym, ◌∙◌, ℕ, length, List, get_or}
use Rattle.zx_model.specs.Bits.{member}
use Rattle.graph_like.proofs.FusingLemmas.{member-get_or}
use Rattle.zx_diagram.specs.Diagram.{Diagram}
use Rattle.graph_like.specs.Classes.{named_by}
use Rattle.graph_like.specs.Internal.Fusing.{near_at, AreWithin, IsFusing, IsStage}

pub record IsTaking (old_near : List (List ℕ)) (old_least : List ℕ) (near : List (List ℕ)) (least : List ℕ) (u i : ℕ) : Type 0 where
  pub same : length near ≡ length old_near
  pub same_least : length least ≡ length old_near
  pub within : AreWithin near (length old_near)
  pub own : named_by least u ≡ u
  pub reached : i ≤ length (near_at near u)
  pub stage : (d : Diagram) → IsFusing d (named_by old_least) (near_at old_near) u u → IsStage d (named_by least) (near_at near) u i

pub next_within : (near : List (List ℕ)) (u i v n : ℕ) → AreWithin near n → i < length (near_at near u) → get_or (near_at near u) i 0 ≡ v → v < n
next_within near u i v n w low at = w u v (ap (λ x. member x (near_at near u)) (sym at) ∙ member-get_or (near_at near u) i low)
