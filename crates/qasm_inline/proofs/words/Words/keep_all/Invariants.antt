-- What is kept and the tokens that are left are what was kept and all tokens.
use Rattle.std.proofs.Common.{◌≡◌, ◌++◌, drop, map}
use Rattle.qasm_lexer.specs.Tokens.{lexemes}
use Rattle.qasm_lexer.specs.Internal.Moved.{moved}
use Rattle.qasm_inline.proofs.words.Words.keep_all.Given as goal

abbrev pub invariant-loop-token : goal.invariant-loop-token
invariant-loop-token l =
    lexemes l.kept.items ++ map (moved l.from) (lexemes (drop l.token-index l.tokens)) ≡ lexemes l.fn.kept.items ++ map (moved l.from) (lexemes l.tokens)
