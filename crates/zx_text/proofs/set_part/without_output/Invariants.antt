-- Those among the vertices so far.
use Rattle.std.proofs.Common.{◌≡◌, ◌++◌, filter, not}
use Rattle.zx_model.specs.Bits.{member}
use Rattle.zx_calculus.specs.Graph.{ids, end_vertices}
use Rattle.zx_text.proofs.set_part.without_output.Given as goal

abbrev pub invariant-loop-v : goal.invariant-loop-v
invariant-loop-v l = record {
  all : l.yielded ++ l.v-iterator ≡ ids l.part.graph.vertices;
  so_far : l.found.items ≡ filter (λ v. not (member v (end_vertices l.part.graph.outputs))) l.yielded;
}
