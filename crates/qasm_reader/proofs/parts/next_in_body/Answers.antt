-- What the part that was read makes of the gate's body.
use Rattle.qasm_lexer.specs.Tokens.{lexemes}
use Rattle.qasm_reader.proofs.PartWise.{body_behind, body_next, none_next}
use Rattle.qasm_reader.proofs.parts.next_in_body.Goals as goal

pub returns-in-Ok-clause-next : goal.returns-in-Ok-clause-next
returns-in-Ok-clause-next c = body_next (lexemes c.args.tokens.now) c.in-Ok.read c.in-Ok.ensures

pub returns-in-Ok-clause-behind : goal.returns-in-Ok-clause-behind
returns-in-Ok-clause-behind c = body_behind (lexemes c.args.tokens.now) c.in-Ok.read c.in-Ok.ensures

pub returns-in-Err-Misfit-clause-next : goal.returns-in-Err-Misfit-clause-next
returns-in-Err-Misfit-clause-next c = λ place gate all inside.
    let none = rw c.in-Err-Misfit.field-0-is at c.in-Err-Misfit.ensures in
    none_next place gate all (lexemes c.args.tokens.now) inside none.0 none.1
