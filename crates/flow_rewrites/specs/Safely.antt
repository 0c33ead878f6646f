-- What the safe call of a rewrite makes of a graph and a flow of it.
use Rattle.std.specs.Prelude.{◌≡◌, true, false, Result, IsOk, IfOk, OnErr}
use Rattle.zx_model.specs.declared.scalar.Scalar.{Scalar}
use Rattle.zx_calculus.specs.Graph.{WellFormed}
use Rattle.zx_calculus.specs.Steps.{Step}
use Rattle.zx_calculus.specs.StepScalars.{step_scalar}
use Rattle.gflow_laws.specs.Rewritten.{IsRewritten}
use Rattle.gflow_laws.specs.Steps.{table_after}
use Rattle.move_laws.specs.Orders.{is_split}
use Rattle.open_graph.specs.OpenGraph.{OpenGraph}
use Rattle.open_graph.specs.Rooms.{IsLeft}
use Rattle.zx_flow.specs.Flows.{Flow}
use Rattle.graph_rewrites.specs.Rooms.{room_after}
use Rattle.flow_rewrites.specs.Rooms.{HaveRoomFor}

-- h and k are g and its flow f after the step, and the answer is its scalar. Of the memory that they had each keeps all
-- but the place that a split takes, and gains the place of a vertex that goes; a flow may have more after a split.
pub record IsDone (s : Step) (g : OpenGraph) (f : Flow) (answer : Scalar) (h : OpenGraph) (k : Flow) : Type 0 where
  pub rewritten : IsRewritten g.graph f.flow s h.graph k.flow
  pub scalar : answer ≡ step_scalar g.graph s
  pub table : is_split s ≡ true → k.flow ≡ table_after g.graph s f.flow
  pub room : h.room ≡ room_after s g.room
  pub flow_room : IsLeft (room_after s f.room) k.room
  pub same_room : is_split s ≡ false → k.room ≡ room_after s f.room

-- h and k are g and f as they were, with the memory that they had
pub record IsUndone (g : OpenGraph) (f : Flow) (h : OpenGraph) (k : Flow) : Type 0 where
  pub graph : h.graph ≡ g.graph
  pub flow : k.flow ≡ f.flow
  pub room : h.room ≡ g.room
  pub flow_room : IsLeft f.room k.room

-- with Ok the step is done, without nothing is, and it is Ok where both have the memory that the step needs
pub record IsDoneSafely {E : Type 0} (s : Step) (g : OpenGraph) (f : Flow) (result : Result Scalar E) (h : OpenGraph)
    (k : Flow) : Type 0 where
  pub ok : IfOk result (λ answer. IsDone s g f answer h k)
  pub err : OnErr result (IsUndone g f h k)
  pub has_room : HaveRoomFor s g f → IsOk result
  pub valid : WellFormed h.graph
