-- The neighbours that were looked at.
use Rattle.std.proofs.Common.{◌≡◌, ◌++◌}
use Rattle.zx_calculus.specs.Graph.{neighbours}
use Rattle.zx_reduce.proofs.plan.partner_of.Given as goal

abbrev pub invariant-loop-v : goal.invariant-loop-v
invariant-loop-v l = record { all : l.yielded ++ l.v-iterator ≡ neighbours l.g.graph l.fn.u }
