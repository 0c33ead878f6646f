-- When rewrites and simplification need no memory.
use Rattle.std.specs.Prelude.{◌≡◌, ◌<◌, ◌≤◌, ◌+◌, ◌*◌, ℕ, length}
use Rattle.zx_model.specs.Bits.{one_if}
use Rattle.zx_calculus.specs.Graph.{XY, Graph, plane_of, IsVertex}
use Rattle.zx_calculus.specs.Counts.{not_XY}
use Rattle.zx_calculus.specs.Steps.{Step, LocalComplement, Delete, Pivot, SplitInput, SplitOutput}
use Rattle.zx_calculus.specs.Steps.{DropLone, FuseInto, FuseTwin}
use Rattle.gflow_laws.specs.Flow.{order_of}
use Rattle.move_laws.specs.Demand.{taken_out}
use Rattle.move_laws.specs.Orders.{is_split}
use Rattle.open_graph.specs.OpenGraph.{OpenGraph}
use Rattle.open_graph.specs.Rooms.{Room, IsAtLeast}
use Rattle.zx_flow.specs.Flows.{Flow, HavePlace, HaveReach}
use Rattle.zx_moves.specs.Traces.{Trace, KeepSteps}

-- graph and flow have the memory that a step needs: all ids are below the reach of both, and a split finds a place
abbrev pub HaveRoomFor : Step → OpenGraph → Flow → Type 0
HaveRoomFor (LocalComplement u) g f = HaveReach g f
HaveRoomFor (Delete u) g f = HaveReach g f
HaveRoomFor (Pivot u v) g f = HaveReach g f
HaveRoomFor (SplitInput b) g f = HavePlace g f
HaveRoomFor (SplitOutput b) g f = HavePlace g f
HaveRoomFor (DropLone u) g f = HaveReach g f
HaveRoomFor (FuseInto u) g f = HaveReach g f
HaveRoomFor (FuseTwin u v) g f = HaveReach g f

-- of the places of a graph or a flow a step uses one where it is a split, and gives back one for each vertex that goes
pub record UsesPlaces (s : Step) (old new : Room) : Type 0 where
  pub spare : old.spare + taken_out s ≤ new.spare + one_if (is_split s)
  pub reach : new.reach ≡ old.reach

-- the room for vertices that are there and for more
abbrev pub in_all : ℕ → Room → Room
in_all there room = record room { spare = room.spare + there }

-- no memory of graph and flow is lost: vertices that are there, or that can be added without memory, are no fewer, and
-- no reach falls
pub record KeepPlaces (g : OpenGraph) (f : Flow) (h : OpenGraph) (k : Flow) : Type 0 where
  pub graph : IsAtLeast (in_all (length g.graph.vertices) g.room) (in_all (length h.graph.vertices) h.room)
  pub flow : IsAtLeast (in_all (length (order_of f.flow)) f.room) (in_all (length (order_of k.flow)) k.room)

-- no memory of graph, flow and trace is lost
pub record KeepRoom (g : OpenGraph) (f : Flow) (trace : Trace) (h : OpenGraph) (k : Flow) (longer : Trace)
    : Type 0 where
  pub places : KeepPlaces g f h k
  pub steps : KeepSteps trace longer

-- room for n more vertices, and for all ids below n
abbrev pub room_for : ℕ → Room
room_for n = record { spare = n; reach = n }

-- graph and flow have it
pub record AreReserved (n : ℕ) (g : OpenGraph) (f : Flow) : Type 0 where
  pub graph : IsAtLeast (room_for n) g.room
  pub flow : IsAtLeast (room_for n) f.room

-- the room that simplification needs: places for as many vertices as there are inputs, and two more, all ids below the
-- reach, those of so many new ones too
abbrev pub room_needed : Graph → Room
room_needed g = record { spare = length g.inputs + 2; reach = length g.vertices + length g.inputs + 2 }

-- graph and flow have it, and the trace that for twelve steps for each XY vertex, eighteen for any other
pub record HasRoom (g : OpenGraph) (f : Flow) (trace : Trace) : Type 0 where
  pub graph : IsAtLeast (room_needed g.graph) g.room
  pub flow : IsAtLeast (room_needed g.graph) f.room
  pub reach : HaveReach g f
  pub steps : 12 * length g.graph.vertices + 6 * not_XY g.graph ≤ trace.spare

-- as in the graph of a circuit all vertices are XY, and their ids are the numbers below that of the vertices
pub record IsNumberedXY (g : Graph) : Type 0 where
  pub planes : (v : ℕ) → IsVertex g v → plane_of g v ≡ XY
  pub ids : (v : ℕ) → IsVertex g v → v < length g.vertices

-- memory was taken for as many vertices as there are, twice the number of inputs and two more, and for twelve steps a
-- vertex
pub record IsReservedFor (g : OpenGraph) (f : Flow) (trace : Trace) : Type 0 where
  pub places : AreReserved (length g.graph.vertices + 2 * length g.graph.inputs + 2) g f
  pub steps : 12 * length g.graph.vertices ≤ trace.spare
