-- Those so far are flipped.
use Rattle.std.proofs.Common.{◌≡◌}
use Rattle.zx_identities.proofs.Flips.{upto}
use Rattle.zx_identities.specs.Internal.Packing.{flipped}
use Rattle.zx_identities.proofs.weights.flip.Given as goal

abbrev pub invariant-loop-i : goal.invariant-loop-i
invariant-loop-i l = l.groups ≡ upto (flipped l.place) l.i l.initial.groups
