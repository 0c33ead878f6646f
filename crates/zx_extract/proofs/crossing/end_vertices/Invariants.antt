-- The vertices so far.
use Rattle.std.proofs.Common.{◌≡◌, take}
use Rattle.zx_calculus.specs.Graph.{end_vertices}
use Rattle.zx_extract.proofs.crossing.end_vertices.Given as goal

abbrev pub invariant-loop-end : goal.invariant-loop-end
invariant-loop-end l = l.vertices.items ≡ end_vertices (take l.end-index l.ends)
