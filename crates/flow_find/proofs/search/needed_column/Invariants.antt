use Rattle.std.proofs.Common.{◌≡◌, ◌++◌}
use Rattle.zx_calculus.specs.Graph.{neighbours}
use Rattle.flow_find.proofs.search.needed_column.Given as goal

abbrev pub invariant-loop-w : goal.invariant-loop-w
invariant-loop-w l = l.yielded ++ l.w-iterator ≡ neighbours l.g.graph l.fn.v
