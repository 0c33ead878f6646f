-- What contracts see of a flow and of a table in memory.
use Rattle.std.specs.Prelude.{◌≡◌, ◌⊎◌, ◌<◌, ℕ, true, List}
use Rattle.zx_model.specs.Bits.{member}
use Rattle.zx_bits.specs.Sets.{IsBelow}
use Rattle.zx_calculus.specs.Graph.{ids}
use Rattle.zx_calculus.specs.Splits.{new_vertex}
use Rattle.open_graph.specs.OpenGraph.{OpenGraph}
use Rattle.open_graph.specs.Rooms.{Room}
use Rattle.gflow_laws.specs.Flow.{Correction, order_of, set_of}

-- its table, which clauses say where it is a flow, and the memory that it has
pub record Flow : Type 0 where
  pub flow : List Correction
  pub room : Room

-- its table, which need not be a flow of any graph
pub record FlowTable : Type 0 where
  pub table : List Correction

-- v stands in the order of a table, or in a set
abbrev pub IsNamed : List Correction → ℕ → Type 0
IsNamed table v =
    (member v (order_of table) ≡ true) ⊎ ((u : ℕ) × (member v (set_of table u) ≡ true))

-- all vertices of the graph are below its reach and that of the flow
abbrev pub HaveReach : OpenGraph → Flow → Type 0
HaveReach g f = IsBelow g.room.reach (ids g.graph.vertices) × IsBelow f.room.reach (ids g.graph.vertices)

-- each has a place for one vertex more, and all vertices and the new one are below the reach of both
pub record HavePlace (g : OpenGraph) (f : Flow) : Type 0 where
  pub place : 0 < g.room.spare
  pub flow_place : 0 < f.room.spare
  pub below : new_vertex g.graph < g.room.reach
  pub flow_below : new_vertex g.graph < f.room.reach
  pub reach : HaveReach g f
