-- What contracts see of an open graph in memory.
use Rattle.std.specs.Prelude.{ℕ, ◌^◌}
use Rattle.zx_calculus.specs.Graph.{Graph}
use Rattle.open_graph.specs.Rooms.{Room}

-- its lists, and the memory that it has
pub record OpenGraph : Type 0 where
  pub graph : Graph
  pub room : Room

-- the ids of vertices are below it: a call that would go past it fails, as where memory runs out
abbrev pub most_vertices_in_memory : ℕ
most_vertices_in_memory = 2 ^ 32
