-- Plain edges while they are contracted.
use Rattle.std.specs.Prelude.{◌≡◌, ℕ, suc, take, ◌<◌, ◌≤◌, true, false, ◌==◌, ◌||◌, ◌&&◌}
use Rattle.std.specs.Prelude.{◌≢◌, List, [], ◌++◌, ◌+◌, length, slice_index_or}
use Rattle.std.specs.List.{All}
use Rattle.zx_model.specs.Bits.{member}
use Rattle.zx_diagram.specs.declared.wire.Wire.{Wire}
use Rattle.zx_diagram.specs.Diagram.{Diagram}
use Rattle.zx_diagram.specs.Sum.{edge_mark}
use Rattle.graph_like.specs.Classes.{IsSameAlong, AreFused}

-- the list of a spider
abbrev pub near_at : List (List ℕ) → ℕ → List ℕ
near_at near u = slice_index_or near u []

-- lists of numbers below n
abbrev pub AreWithin : List (List ℕ) → ℕ → Type 0
AreWithin near n = (k v : ℕ) → member v (near_at near k) ≡ true → v < n

-- The spiders below u have taken in their classes; a spider that isn't named by one below `next` names itself. What is
-- still to be contracted at a spider from u on, or at one that it took in, stands in the list of that spider.
pub record IsFusing (d : Diagram) (least : ℕ → ℕ) (near : ℕ → List ℕ) (u next : ℕ) : Type 0 where
  pub low : (w : ℕ) → least w ≤ w
  pub later : (w : ℕ) → next ≤ least w → least w ≡ w
  pub fused : (w : ℕ) → AreFused d w (least w)
  pub closed : (r : ℕ) → r < u → IsSameAlong d (λ w. least w == r)
  pub sound : (k v : ℕ) → member v (near k) ≡ true → AreFused d k v
  pub first : All (λ e. edge_mark d.spiders e ≡ false → u ≤ least e.a → member e.b (near (least e.a)) ≡ true) d.edges
  pub second : All (λ e. edge_mark d.spiders e ≡ false → u ≤ least e.b → member e.a (near (least e.b)) ≡ true) d.edges

-- u is taking in its class, and has taken in the first i of its list
pub record IsStage (d : Diagram) (least : ℕ → ℕ) (near : ℕ → List ℕ) (u i : ℕ) : Type 0 where
  pub fusing : IsFusing d least near u (suc u)
  pub done : (x : ℕ) → member x (take i (near u)) ≡ true → least x ≡ u

-- where v is the next in the list of u, one more is taken in
abbrev pub IsNextStage : List (List ℕ) → List (List ℕ) → (ℕ → ℕ) → (ℕ → ℕ) → ℕ → ℕ → Type 0
IsNextStage old new old_least new_least u v = (d : Diagram) (i : ℕ) → i < length (near_at old u) →
    slice_index_or (near_at old u) i 0 ≡ v → IsStage d old_least (near_at old) u i →
    IsStage d new_least (near_at new) u (i + 1)

-- v is taken in by u, which takes over its list
pub record IsTakenIn (least new : ℕ → ℕ) (near list : ℕ → List ℕ) (u v : ℕ) : Type 0 where
  pub named : new v ≡ u
  pub others_named : (w : ℕ) → w ≢ v → new w ≡ least w
  pub taken_over : list u ≡ near u ++ near v
  pub left : list v ≡ []
  pub other_lists : (k : ℕ) → k ≢ u → k ≢ v → list k ≡ near k

-- each of the two spiders of an edge stands in the list of the other, besides what stood there
abbrev pub GainsEdge : (ℕ → List ℕ) → Wire → (ℕ → List ℕ) → Type 0
GainsEdge near edge new = (k x : ℕ) →
    member x (new k) ≡ (member x (near k) || (((k == edge.a) && (x == edge.b)) || ((k == edge.b) && (x == edge.a))))
