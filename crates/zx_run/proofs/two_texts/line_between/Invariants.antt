-- No line before this place parts two texts.
use Rattle.std.proofs.Common.{◌≡◌, ◌≤◌, ℕ, List, length, take, true}
use Rattle.qasm_lexer.specs.Taken.{AreLines}
use Rattle.zx_run.specs.TwoTexts.{IsParted}
use Rattle.zx_run.proofs.two_texts.line_between.Given as goal

abbrev pub invariant-loop-at : goal.invariant-loop-at
invariant-loop-at l = record {
  lines : l.begins ≡ true → AreLines (take l.at l.text);
  begins : AreLines (take l.at l.text) → l.begins ≡ true;
  none : (first second : List ℕ) → IsParted l.text first second → l.at ≤ length first;
}
