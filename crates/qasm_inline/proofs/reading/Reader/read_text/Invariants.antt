-- Up to here the text is cut, and its tokens were read.
use Rattle.std.proofs.Common.{◌-◌, ◌<◌, ◌≤◌, List, length, drop, map}
use Rattle.qasm_lexer.specs.Tokens.{Lexeme, IsCutUpTo}
use Rattle.qasm_lexer.specs.Internal.Moved.{moved}
use Rattle.qasm_inline.specs.Internal.Readings.{ReadsOn}
use Rattle.qasm_inline.proofs.reading.Reader.read_text.Given as goal

abbrev pub invariant-loop-done : goal.invariant-loop-done
invariant-loop-done l = record {
  read : (tokens : List Lexeme) × IsCutUpTo 0 l.text (drop l.done l.text) tokens × ReadsOn l.fn.self (map (moved l.from) tokens) l.self;
  within : l.done ≤ length l.text;
  some : 0 < l.batch;
}

abbrev pub decreases-loop-done : goal.decreases-loop-done
decreases-loop-done l = length l.text - l.done
