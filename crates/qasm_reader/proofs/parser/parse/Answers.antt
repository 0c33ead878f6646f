-- Each clause follows from what the answer says of the tokens.
use Rattle.qasm_lexer.specs.Tokens.{lexemes}
use Rattle.qasm_reader.proofs.Answering as answer
use Rattle.qasm_reader.proofs.parser.parse.Goals as goal

pub returns-clause-only : goal.returns-clause-only
returns-clause-only c = answer.only (lexemes c.args.tokens.now) c.program.result c.program.ensures

pub returns-clause-only_syntax : goal.returns-clause-only_syntax
returns-clause-only_syntax c = answer.only_syntax (lexemes c.args.tokens.now) c.program.result c.program.ensures
