use Rattle.std.proofs.Common.{◌≡◌, ◌+◌, ℕ, if◌then◌else◌, ltb, length, get_or}
use Rattle.std.specs.Int.RustNames.{bit_and}
use Rattle.zx_bits.specs.Internal.Windows.{word_at}
use Rattle.zx_bits.proofs.window.keep_words.Given as goal

abbrev pub invariant-loop-i : goal.invariant-loop-i
invariant-loop-i l = record {
  size : length l.words ≡ length l.initial.words;
  words : (v : ℕ) → get_or l.words v 0 ≡ (if ltb v l.i then bit_and (get_or l.initial.words v 0) (word_at l.row (l.offset + v)) else get_or l.initial.words v 0);
}
