-- Those so far.
use Rattle.std.proofs.Common.{◌≡◌}
use Rattle.zx_identities.specs.Internal.Parities.{units_from}
use Rattle.zx_identities.proofs.parities.units.Given as goal

abbrev pub invariant-loop-q : goal.invariant-loop-q
invariant-loop-q l = l.made.items ≡ units_from l.q 0
