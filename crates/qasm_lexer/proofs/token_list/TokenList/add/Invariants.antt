-- The list so far and the tokens that are left make the list with all tokens.
use Rattle.std.proofs.Common.{◌≡◌, ◌++◌, drop, map}
use Rattle.qasm_lexer.specs.Tokens.{lexemes}
use Rattle.qasm_lexer.specs.Internal.Moved.{moved}
use Rattle.qasm_lexer.proofs.token_list.TokenList.add.Given as goal

abbrev pub invariant-loop-token : goal.invariant-loop-token
invariant-loop-token l =
    l.self ++ map (moved l.from) (lexemes (drop l.token-index l.tokens)) ≡ l.fn.self ++ map (moved l.from) (lexemes l.tokens)
