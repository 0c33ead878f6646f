use Rattle.std.proofs.Common.{◌≡◌, ◌+◌, ◌-◌, ◌<◌, ℕ, ltb, if◌then◌else◌, length, get_or}
use Rattle.zx_bits.proofs.window.move_back.Given as goal

abbrev pub invariant-loop-i : goal.invariant-loop-i
invariant-loop-i l = record {
  zeros : (j : ℕ) → get_or l.words j 0 ≡ (if ltb j l.i then 0 else get_or l.initial.words j 0);
  len : length l.words ≡ length l.initial.words;
}

abbrev pub invariant-loop-moved : goal.invariant-loop-moved
invariant-loop-moved l = record {
  words : (j : ℕ) → j < length l.initial.words → get_or l.words j 0 ≡ get_or l.initial.words (if ltb (j + l.moved) (l.kept + l.count) then j else j - l.count) 0;
  len : length l.words ≡ length l.initial.words;
}
