-- One more, the last one, and one that isn't.
use Rattle.std.proofs.Common.{refl, arith}
use Rattle.zx_identities.proofs.ParityLemmas.{shl_fits, units_so_far, units_seen, unit_there}
use Rattle.zx_identities.proofs.parities.are_units.Goals as goal

pub returns-then-parities-q : goal.returns-then-parities-q
returns-then-parities-q c = (
  λ e. cc,
  λ all. absurd (c.if-parities-q.true (unit_there c.args.parities.now c.loop-q.q _ (omega arith) (shl_fits c.loop-q.q (omega arith)) all)),
)

pub loop-q-preserved : goal.loop-q-preserved
loop-q-preserved c = units_so_far c.args.parities.now c.loop-q.q _ c.loop-q.invariant c.if-parities-q.false (shl_fits c.loop-q.q (omega arith))

pub returns : goal.returns
returns c = (λ e. units_seen c.args.parities.now c.loop-q.q (omega arith) c.loop-q.invariant, λ all. refl)
