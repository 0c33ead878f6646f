use Rattle.std.proofs.Common.{◌≡◌, ◌≤◌, ℕ, length, get_or}
use Rattle.zx_bits.proofs.window.used.Given as goal

abbrev pub invariant-back : goal.invariant-back
invariant-back l = record {
  within : l.end ≤ length l.words;
  zeros : (i : ℕ) → l.end ≤ i → get_or l.words i 0 ≡ 0;
}

abbrev pub decreases-back : goal.decreases-back
decreases-back l = l.end
