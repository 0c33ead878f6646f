-- Those so far don't.
use Rattle.std.proofs.Common.{◌≡◌, ◌<◌, ℕ, get_or}
use Rattle.zx_identities.specs.declared.packing.Group.{Group}
use Rattle.zx_identities.proofs.weights.is_used.Given as goal

abbrev pub invariant-loop-group : goal.invariant-loop-group
invariant-loop-group l = (i : ℕ) (d : Group) → i < l.group-index → get_or (get_or l.groups i d).rows l.place 0 ≡ 0
