-- The text holds the lines so far.
use Rattle.std.proofs.Common.{◌≡◌, ◌++◌}
use Rattle.zx_calculus.specs.Graph.{ids}
use Rattle.zx_text.proofs.graph_writer.ids_of.Given as goal

abbrev pub invariant-loop-v : goal.invariant-loop-v
invariant-loop-v l = record {
  all : l.yielded ++ l.v-iterator ≡ ids l.g.graph.vertices;
  so_far : l.used.items ≡ l.yielded;
}
