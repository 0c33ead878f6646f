-- What is left is in the body of the gate, which has the statements so far.
use Rattle.std.proofs.Common.{length, map}
use Rattle.qasm_lexer.specs.Tokens.{lexemes}
use Rattle.qasm_reader.specs.Parts.{IsInBody}
use Rattle.qasm_reader.specs.Views.{body_sentence, form_of}
use Rattle.qasm_reader.proofs.parser.next_element.Given as goal

abbrev pub invariant-loop-body : goal.invariant-loop-body
invariant-loop-body l = IsInBody l.place (form_of l.heading (map body_sentence l.body.items)) (lexemes l.tokens) (lexemes l.rest)

abbrev pub decreases-loop-body : goal.decreases-loop-body
decreases-loop-body l = length l.rest
