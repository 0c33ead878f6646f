-- The rows of the first outputs.
use Rattle.std.proofs.Common.{take}
use Rattle.zx_calculus.specs.Graph.{end_vertices}
use Rattle.zx_extract.specs.Internal.FrontGraphs.{HasRows}
use Rattle.zx_extract.proofs.front_graph.rows_of.Given as goal

abbrev pub invariant-loop-output : goal.invariant-loop-output
invariant-loop-output l = HasRows l.g.graph (end_vertices (take l.output-index l.g.graph.outputs)) l.rows.lists
