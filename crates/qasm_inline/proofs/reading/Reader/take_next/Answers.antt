-- By whether a gate's declaration is open.
use Rattle.std.proofs.Common.{sym, ◌∙◌, subst}
use Rattle.qasm_lexer.specs.Tokens.{lexemes}
use Rattle.qasm_inline.specs.Internal.Readings.{AreTaken}
use Rattle.qasm_inline.proofs.reading.Reader.take_next.Goals as goal

pub returns-in-None-clause-taken : goal.returns-in-None-clause-taken
returns-in-None-clause-taken c = λ all taken.
    let closed = sym c.take.ensures.value ∙ c.in-None.is ∙ sym c.take.ensures.after in
    c.take_next_part.ensures.taken all (subst (λ gate. AreTaken all gate c.args.self.now.circuit (lexemes c.args.tokens.now)) closed taken)

pub returns-in-Some-clause-taken : goal.returns-in-Some-clause-taken
returns-in-Some-clause-taken c = λ all taken.
    let is = sym c.take.ensures.value ∙ c.in-Some.is in
    c.take_next_in_body.ensures.taken all (subst (λ gate. AreTaken all gate c.args.self.now.circuit (lexemes c.args.tokens.now)) is taken)
