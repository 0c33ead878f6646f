-- The first outputs are met.
use Rattle.std.proofs.Common.{take}
use Rattle.zx_calculus.specs.Graph.{end_vertices, WellFormed}
use Rattle.zx_extract.specs.Internal.FrontGraphs.{IsMet}
use Rattle.zx_extract.proofs.front_graph.meet_outputs.Given as goal

abbrev pub invariant-loop-i : goal.invariant-loop-i
invariant-loop-i l = record {
  met : IsMet l.initial.g.graph l.rows.lists l.v (take l.i (end_vertices l.initial.g.graph.outputs)) l.g.graph;
  valid : WellFormed l.g.graph;
}
