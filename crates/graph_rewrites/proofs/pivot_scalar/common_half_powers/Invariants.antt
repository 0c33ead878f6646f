-- The common neighbours so far are counted.
use Rattle.std.proofs.Common.{◌≡◌, ◌++◌, filter}
use Rattle.zx_calculus.specs.Graph.{joined, neighbours}
use Rattle.zx_calculus.specs.Scalars.{half_powers}
use Rattle.graph_rewrites.proofs.pivot_scalar.common_half_powers.Given as goal

abbrev pub invariant-loop-p : goal.invariant-loop-p
invariant-loop-p l = record {
  all : l.yielded ++ l.p-iterator ≡ neighbours l.g.graph l.fn.u;
  sum : l.sum ≡ half_powers l.g.graph (filter (joined l.g.graph.edges l.fn.v) l.yielded);
}
