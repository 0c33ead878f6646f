-- What was read off the tokens so far is taken in.
use Rattle.std.proofs.Common.{◌-◌, ◌≤◌, List, length, drop}
use Rattle.qasm_lexer.specs.Tokens.{Lexeme, lexemes}
use Rattle.qasm_inline.specs.Internal.Readings.{AreTaken}
use Rattle.qasm_inline.proofs.reading.Reader.take_parts.Given as goal

abbrev pub invariant-loop-count : goal.invariant-loop-count
invariant-loop-count l = record {
  within : l.taken ≤ length l.tokens.items;
  read : (all : List Lexeme) → AreTaken all l.fn.self.gate l.fn.self.circuit (lexemes l.tokens.items)
      → AreTaken all l.self.gate l.self.circuit (lexemes (drop l.taken l.tokens.items));
}

abbrev pub decreases-loop-count : goal.decreases-loop-count
decreases-loop-count l = length l.tokens.items - l.taken
