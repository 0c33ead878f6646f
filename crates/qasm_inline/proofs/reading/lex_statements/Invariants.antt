-- Up to here the text is cut, and further than it was.
use Rattle.std.proofs.Common.{◌-◌, ◌<◌, ◌≤◌, ◌++◌, List, length}
use Rattle.qasm_lexer.specs.Tokens.{Lexeme, lexemes, IsCutAt}
use Rattle.qasm_inline.proofs.reading.lex_statements.Given as goal

abbrev pub invariant-loop-end : goal.invariant-loop-end
invariant-loop-end l = record {
  within : l.end ≤ length l.text;
  cut : (before : List Lexeme) → IsCutAt l.text l.place (before ++ lexemes l.fn.tokens.items)
      → IsCutAt l.text l.end (before ++ lexemes l.tokens.items);
  further : l.place < length l.text → length l.fn.tokens.items < l.count → l.place < l.end;
}

abbrev pub decreases-loop-end : goal.decreases-loop-end
decreases-loop-end l = length l.text - l.end
