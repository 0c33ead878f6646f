-- Up to here the text is cut, and its tokens were added.
use Rattle.std.proofs.Common.{◌≡◌, ◌-◌, ◌≤◌, ◌++◌, List, length, drop, map}
use Rattle.qasm_lexer.specs.Tokens.{Lexeme, IsCutUpTo}
use Rattle.qasm_lexer.specs.Internal.Moved.{moved}
use Rattle.qasm_lexer.proofs.piece_lexer.add_tokens.Given as goal

abbrev pub invariant-loop-done : goal.invariant-loop-done
invariant-loop-done l = record {
  cut : (tokens : List Lexeme) × IsCutUpTo 0 l.text (drop l.done l.text) tokens × (l.list ≡ l.fn.list ++ map (moved l.place) tokens);
  within : l.done ≤ length l.text;
}

abbrev pub decreases-loop-done : goal.decreases-loop-done
decreases-loop-done l = length l.text - l.done
