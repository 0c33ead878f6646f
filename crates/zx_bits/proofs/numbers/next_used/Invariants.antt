use Rattle.std.proofs.Common.{◌≡◌, ◌<◌, ℕ, get_or}
use Rattle.zx_bits.proofs.numbers.next_used.Given as goal

abbrev pub invariant-loop-next : goal.invariant-loop-next
invariant-loop-next l = (i : ℕ) → l.index < i → i < l.next → get_or l.words i 0 ≡ 0
