-- The tokens so far, and the naturals in the digits that are left, are the old tokens and the naturals in all digits.
use Rattle.std.proofs.Common.{◌≡◌, ◌+◌, ◌++◌, length}
use Rattle.qasm_lexer.specs.Tokens.{lexemes}
use Rattle.qasm_lexer.specs.Internal.FirstPiece.{naturals, natural_tokens}
use Rattle.qasm_lexer.proofs.lexer.push_naturals.Given as goal

abbrev pub invariant-loop-tokens : goal.invariant-loop-tokens
invariant-loop-tokens l = record {
  tokens : lexemes l.tokens.items ++ natural_tokens l.place (naturals l.rest)
      ≡ lexemes l.fn.tokens.items ++ natural_tokens l.fn.place (naturals l.digits);
  place : l.place + length l.rest ≡ l.fn.place + length l.digits;
}

abbrev pub decreases-loop-tokens : goal.decreases-loop-tokens
decreases-loop-tokens l = length l.rest
