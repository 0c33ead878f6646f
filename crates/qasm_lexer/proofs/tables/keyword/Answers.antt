-- Only words of the same length can be the word.
use Rattle.std.proofs.Common.{◌∙◌}
use Rattle.qasm_lexer.specs.Tokens.{words}
use Rattle.qasm_lexer.proofs.Words.{by_length}
use Rattle.qasm_lexer.proofs.tables.keyword.Goals as goal

pub returns-in-2 : goal.returns-in-2
returns-in-2 c = c.kind_in-in-2.ensures ∙ by_length words c.args.word.now 2 c.in-2.is

pub returns-in-3 : goal.returns-in-3
returns-in-3 c = c.kind_in-in-3.ensures ∙ by_length words c.args.word.now 3 c.in-3.is

pub returns-in-4 : goal.returns-in-4
returns-in-4 c = c.kind_in-in-4.ensures ∙ by_length words c.args.word.now 4 c.in-4.is

pub returns-in-5 : goal.returns-in-5
returns-in-5 c = c.kind_in-in-5.ensures ∙ by_length words c.args.word.now 5 c.in-5.is

pub returns-in-6 : goal.returns-in-6
returns-in-6 c = c.kind_in-in-6.ensures ∙ by_length words c.args.word.now 6 c.in-6.is

pub returns-in-7 : goal.returns-in-7
returns-in-7 c = c.kind_in-in-7.ensures ∙ by_length words c.args.word.now 7 c.in-7.is
