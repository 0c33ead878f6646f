-- The memory that a step of a graph needs, and what it leaves of it.
use Rattle.std.specs.Prelude.{◌<◌, ◌∷◌}
use Rattle.zx_bits.specs.Sets.{IsBelow}
use Rattle.zx_calculus.specs.Graph.{ids}
use Rattle.zx_calculus.specs.Splits.{new_vertex}
use Rattle.zx_calculus.specs.Steps.{Step, LocalComplement, Delete, Pivot, SplitInput, SplitOutput}
use Rattle.zx_calculus.specs.Steps.{DropLone, FuseInto, FuseTwin}
use Rattle.open_graph.specs.OpenGraph.{OpenGraph}
use Rattle.open_graph.specs.Rooms.{Room, without_place, with_place}

-- all vertices of the graph are below its reach
abbrev pub HasReach : OpenGraph → Type 0
HasReach g = IsBelow g.room.reach (ids g.graph.vertices)

-- it has a place for one vertex more, and all vertices and the new one are below its reach
abbrev pub HasPlace : OpenGraph → Type 0
HasPlace g = (0 < g.room.spare) × IsBelow g.room.reach (new_vertex g.graph ∷ ids g.graph.vertices)

-- the graph has the memory that a step needs: all ids are below its reach, and a split finds a place
abbrev pub HasRoomFor : Step → OpenGraph → Type 0
HasRoomFor (LocalComplement u) g = HasReach g
HasRoomFor (Delete u) g = HasReach g
HasRoomFor (Pivot u v) g = HasReach g
HasRoomFor (SplitInput b) g = HasPlace g
HasRoomFor (SplitOutput b) g = HasPlace g
HasRoomFor (DropLone u) g = HasReach g
HasRoomFor (FuseInto u) g = HasReach g
HasRoomFor (FuseTwin u v) g = HasReach g

-- the memory after a step: a split takes a place for a vertex, and one is given back for the vertex that goes
abbrev pub room_after : Step → Room → Room
room_after (LocalComplement u) room = room
room_after (Delete u) room = with_place room
room_after (Pivot u v) room = room
room_after (SplitInput b) room = without_place room
room_after (SplitOutput b) room = without_place room
room_after (DropLone u) room = with_place room
room_after (FuseInto u) room = with_place room
room_after (FuseTwin u v) room = with_place room
