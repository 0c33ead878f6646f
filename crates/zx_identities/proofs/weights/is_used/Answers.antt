-- No parity has the bit.
use Rattle.std.proofs.Common.{arith}
use Rattle.zx_identities.proofs.Walks.{unflipped}
use Rattle.zx_identities.proofs.weights.is_used.Goals as goal

pub returns : goal.returns
returns c = λ e. unflipped c.args.place c.args.groups.now (λ i d below. c.loop-group.invariant i d (omega arith))
