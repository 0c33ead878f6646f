-- The places that are left.
use Rattle.std.proofs.Common.{◌-◌}
use Rattle.zx_identities.proofs.weights.+are_zero.Given as goal

abbrev pub decreases-are_zero : goal.decreases-are_zero
decreases-are_zero l = l.bits - l.place
