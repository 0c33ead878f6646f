-- Up to the end so far the text is cut into pieces with the tokens so far, behind any that stood before.
use Rattle.std.proofs.Common.{◌-◌, ◌≤◌, ◌<◌, ◌≡◌, ◌⊎◌, ◌++◌, List, length, drop}
use Rattle.qasm_lexer.specs.Tokens.{Lexeme, lexemes, IsCutUpTo, IsBegun}
use Rattle.qasm_lexer.proofs.lexer.lex_further.Given as goal

abbrev pub invariant-loop-end : goal.invariant-loop-end
invariant-loop-end l = record {
  cut : (before : List Lexeme) → IsCutUpTo 0 l.text (drop l.place l.text) (before ++ lexemes l.fn.tokens.items)
      → IsCutUpTo 0 l.text (drop l.end l.text) (before ++ lexemes l.tokens.items);
  added : IsBegun (lexemes l.fn.tokens.items) (lexemes l.tokens.items);
  within : l.end ≤ length l.text;
  further : (l.place < l.end) ⊎ ((l.end ≡ l.place) × (l.tokens.items ≡ l.fn.tokens.items));
}

abbrev pub decreases-loop-end : goal.decreases-loop-end
decreases-loop-end l = length l.text - l.end
