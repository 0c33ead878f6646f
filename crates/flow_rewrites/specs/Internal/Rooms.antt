-- Room while moves are made.
use Rattle.std.specs.Prelude.{◌≤◌, ◌+◌, ℕ, List, [], ◌∷◌, length}
use Rattle.zx_calculus.specs.Graph.{Graph, Plane, XY, XZ, YZ}
use Rattle.zx_calculus.specs.Steps as calculus
use Rattle.zx_calculus.specs.Steps.{IsStep}
use Rattle.move_laws.specs.Demand.{demand}
use Rattle.open_graph.specs.OpenGraph.{OpenGraph}
use Rattle.open_graph.specs.Rooms.{IsAtLeast}
use Rattle.zx_flow.specs.Flows.{Flow, HaveReach}
use Rattle.flow_rewrites.specs.Rooms.{in_all, room_for}

-- graph and flow have memory for n vertices with ids below n, those that are there among them
pub record HavePlaces (n : ℕ) (g : OpenGraph) (f : Flow) : Type 0 where
  pub graph : IsAtLeast (room_for n) (in_all (length g.graph.vertices) g.room)
  pub flow : IsAtLeast (room_for n) (in_all (length g.graph.vertices) f.room)
  pub reach : HaveReach g f

-- whatever graphs the steps lead to, their demand is at most d, but for one more before the last step is done
abbrev pub StaysWithin : ℕ → Graph → List calculus.Step → Type 0
StaysWithin d g [] = demand g ≤ d
StaysWithin d g (s ∷ rest) = (demand g ≤ d + 1) × ((h : Graph) → IsStep g s h → StaysWithin d h rest)

-- how many steps simplification needs for a vertex of this plane
abbrev pub steps_needed : Plane → ℕ
steps_needed XY = 12
steps_needed XZ = 18
steps_needed YZ = 18
