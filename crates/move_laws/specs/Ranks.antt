-- Orders told by ranks: each vertex has a number, and in the order the numbers rise. Numbers of
-- vertices outside the order don't matter.
use Rattle.std.specs.Prelude.{◌≡◌, ◌<◌, ◌≤◌, ℕ, true, if◌then◌else◌, ◌==◌, List, [], ◌∷◌}
use Rattle.std.specs.Prelude.{slice_index_or}
use Rattle.zx_model.specs.Bits.{member}
use Rattle.zx_calculus.specs.Graph.{Graph}
use Rattle.move_laws.specs.Orders.{HasFlowAlong}

-- along the list the ranks rise
abbrev pub RisesBy : (ℕ → ℕ) → List ℕ → Type 0
RisesBy rank [] = Unit {0}
RisesBy rank (v ∷ vs) = ((w : ℕ) → member w vs ≡ true → rank v < rank w) × RisesBy rank vs

-- the graph has a flow along an order in which ranks rise, from `low` on and below `high`
pub record HasFlowBy (g : Graph) (rank : ℕ → ℕ) (low high : ℕ) : Type 0 where
  pub order : List ℕ
  pub flow : HasFlowAlong g order
  pub rises : RisesBy rank order
  pub from_low : (v : ℕ) → member v order ≡ true → low ≤ rank v
  pub below_high : (v : ℕ) → member v order ≡ true → rank v < high

-- the ranks where v gets the rank r
abbrev pub ranked : ℕ → ℕ → (ℕ → ℕ) → ℕ → ℕ
ranked v r rank w = if w == v then r else rank w

-- the rank that a list gives the vertex of this number, and 0 behind its end
abbrev pub rank_in : List ℕ → ℕ → ℕ
rank_in ranks v = slice_index_or ranks v 0
