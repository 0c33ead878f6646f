-- The text holds the lines so far.
use Rattle.std.proofs.Common.{◌≡◌, ◌++◌}
use Rattle.std.specs.List.{flat_map}
use Rattle.zx_calculus.specs.Graph.{ids, neighbours}
use Rattle.zx_text.specs.Internal.Writing.{edge_text}
use Rattle.zx_text.proofs.graph_writer.push_edges.Given as goal

abbrev pub invariant-loop-v : goal.invariant-loop-v
invariant-loop-v l = record {
  all : l.yielded ++ l.v-iterator ≡ ids l.g.graph.vertices;
  so_far : l.text.items ≡ l.fn.text.items ++ flat_map (λ v. flat_map (edge_text l.used v) (neighbours l.g.graph v)) l.yielded;
}
