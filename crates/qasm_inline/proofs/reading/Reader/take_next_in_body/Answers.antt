-- What is next in a gate's body, or nothing.
use Rattle.std.specs.Prelude.{IfSome}
use Rattle.std.proofs.Common.{sym, subst}
use Rattle.qasm_lexer.specs.Tokens.{lexemes}
use Rattle.qasm_reader.specs.Parts.{IsBehind, IsNextInBody}
use Rattle.qasm_inline.specs.Internal.Readings.{AreTaken}
use Rattle.qasm_inline.proofs.ReadingLemmas.{rest_is}
use Rattle.qasm_inline.proofs.reading.Reader.take_next_in_body.Goals as goal

pub returns-in-Some-clause-taken : goal.returns-in-Some-clause-taken
returns-in-Some-clause-taken c = λ all taken.
    let behind = subst (λ read. IfSome read (λ x. IsBehind (lexemes x.1.now) (lexemes c.args.tokens.now))) c.in-Some.is c.in_ok-part.ensures.behind in
    let later = c.take_body_part.new.self in
    subst (AreTaken all later.gate later.circuit) (sym (rest_is c.args.tokens.now c.in-Some.rest.now behind))
    (c.take_body_part.ensures all (lexemes c.args.tokens.now) c.in-Some.rest
    (λ form ts is. subst (λ read. IsNextInBody c.args.gate.place form ts (lexemes c.args.tokens.now) read) c.in-Some.is (c.in_ok-part.ensures.next c.args.gate.place form ts is)) taken)

pub returns-in-None-clause-taken : goal.returns-in-None-clause-taken
returns-in-None-clause-taken c = λ all taken.
    let place = c.args.gate.place in
    let ts = lexemes c.args.tokens.now in
    (taken, subst (IsNextInBody place taken.taken.0 taken.behind ts) c.in-None.is (c.in_ok-part.ensures.next place taken.taken.0 taken.behind taken.taken.1))
