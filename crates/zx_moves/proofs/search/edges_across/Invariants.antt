-- The neighbours that were counted.
use Rattle.std.proofs.Common.{◌≡◌, ◌++◌}
use Rattle.zx_calculus.specs.Graph.{neighbours}
use Rattle.zx_moves.proofs.search.edges_across.Given as goal

abbrev pub invariant-loop-p : goal.invariant-loop-p
invariant-loop-p l = record { all : l.yielded ++ l.p-iterator ≡ neighbours l.g.graph l.fn.u }
