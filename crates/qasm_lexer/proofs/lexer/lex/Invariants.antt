-- Up to the place the text is cut into pieces with the tokens so far.
use Rattle.std.proofs.Common.{◌-◌, ◌≤◌, length, drop}
use Rattle.qasm_lexer.specs.Tokens.{lexemes, IsCutUpTo}
use Rattle.qasm_lexer.proofs.lexer.lex.Given as goal

abbrev pub invariant-loop-place : goal.invariant-loop-place
invariant-loop-place l = record {
  cut : IsCutUpTo 0 l.text (drop l.place l.text) (lexemes l.tokens.items);
  within : l.place ≤ length l.text;
}

abbrev pub decreases-loop-place : goal.decreases-loop-place
decreases-loop-place l = length l.text - l.place
