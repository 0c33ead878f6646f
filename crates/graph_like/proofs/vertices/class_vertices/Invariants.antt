use Rattle.std.proofs.Common.{◌≡◌, []}
use Rattle.graph_like.specs.Internal.Building.{IsNumbered, vertices_of}
use Rattle.graph_like.proofs.vertices.class_vertices.Given as goal

abbrev pub invariant-loop-i : goal.invariant-loop-i
invariant-loop-i l =
    (l.graph.graph ≡ record { vertices = vertices_of l.phases l.i; edges = []; inputs = []; outputs = [] }) × IsNumbered l.graph.graph
