-- Those so far are.
use Rattle.std.proofs.Common.{◌≡◌, ℕ, ◌*◌, ◌^◌, ◌<◌, get_or}
use Rattle.zx_identities.proofs.parities.are_units.Given as goal

abbrev pub invariant-loop-q : goal.invariant-loop-q
invariant-loop-q l = (k : ℕ) → k < l.q → get_or l.parities k 0 ≡ 2 * 2 ^ k
