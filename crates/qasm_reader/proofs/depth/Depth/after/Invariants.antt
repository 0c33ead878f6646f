-- The depth is that behind the tokens so far.
use Rattle.std.proofs.Common.{List, ◌++◌, take}
use Rattle.qasm_lexer.specs.Tokens.{Lexeme, lexemes}
use Rattle.qasm_reader.specs.Depth.{IsDepth}
use Rattle.qasm_reader.proofs.depth.Depth.after.Given as goal

abbrev pub invariant-loop-token : goal.invariant-loop-token
invariant-loop-token l = (before : List Lexeme) → IsDepth l.fn.self before → IsDepth l.depth (before ++ lexemes (take l.token-index l.tokens))
