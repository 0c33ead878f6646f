use Rattle.std.proofs.Common.{◌≡◌, ◌+◌, ℕ, ltb, if◌then◌else◌, length, get_or}
use Rattle.zx_bits.proofs.window.move_front.Given as goal

abbrev pub invariant-loop-i : goal.invariant-loop-i
invariant-loop-i l = record {
  moved : (j : ℕ) → get_or l.words j 0 ≡ get_or l.initial.words (if ltb (l.count + j) l.i then l.count + j else j) 0;
  len : length l.words ≡ length l.initial.words;
}
