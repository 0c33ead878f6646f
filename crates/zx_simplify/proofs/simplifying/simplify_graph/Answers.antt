-- Scalars, odd phases and widths carry over from one to the next.
use Rattle.std.proofs.Common.{map, arith}
use Rattle.graph_rewrites.specs.Steps.{step_named}
use Rattle.zx_gates.proofs.Passing.{product_fits}
use Rattle.zx_reduce.specs.Scaling.{most_reduced_root2}
use Rattle.zx_simplify.proofs.Whole.{graph_whole}
use Rattle.zx_simplify.proofs.simplifying.simplify_graph.Goals as goal

pub times-requires : goal.times-requires
times-requires c =
    product_fits most_reduced_root2 c.in_ok-made.made.scalar c.in_ok-made.ensures.small c.in_ok-circuit.ensures.kept (omega arith)

pub returns : goal.returns
returns c = record {
  steps = map step_named c.in_ok-made.made.trace.steps;
  end = c.in_ok-made.made.graph.graph;
  simplifies = graph_whole _ _ _ _ _ _ _ _ c.requires.ends c.in_ok-made.ensures c.in_ok-circuit.ensures c.times.ensures;
}
