-- The vertices so far are bare.
use Rattle.std.proofs.Common.{◌≡◌, ◌++◌}
use Rattle.std.specs.List.{list_all}
use Rattle.zx_calculus.specs.Graph.{ids}
use Rattle.zx_same.specs.Bare.{is_bare_vertex}
use Rattle.zx_same.proofs.bare.are_bare_vertices.Given as goal

abbrev pub invariant-loop-v : goal.invariant-loop-v
invariant-loop-v l = record {
  all : l.yielded ++ l.v-iterator ≡ ids l.g.graph.vertices;
  rest : list_all (is_bare_vertex l.g.graph) (ids l.g.graph.vertices) ≡ list_all (is_bare_vertex l.g.graph) l.v-iterator;
}
