use Rattle.std.proofs.Common.{◌≡◌, ◌≤◌, ◌<◌, ◌-◌, ℕ, length, get_or}
use Rattle.zx_bits.proofs.window.unused_before.Given as goal

abbrev pub invariant-front : goal.invariant-front
invariant-front l = record {
  within : l.first ≤ length l.words;
  zeros : (i : ℕ) → i < l.first → get_or l.words i 0 ≡ 0;
}

abbrev pub decreases-front : goal.decreases-front
decreases-front l = length l.words - l.first
