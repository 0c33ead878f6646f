-- One statement of the body more, the brace that closes it, or neither.
use Rattle.std.proofs.Common.{map, subst}
use Rattle.qasm_lexer.specs.Tokens.{lexemes}
use Rattle.qasm_reader.specs.Parts.{BeginNone, IsNextInBody}
use Rattle.qasm_reader.specs.Views.{body_sentence, form_of}
use Rattle.qasm_reader.proofs.Turns.{body_ends, body_goes_on, body_smaller}
use Rattle.qasm_reader.proofs.parser.next_element.Goals as goal

pub returns-in-End : goal.returns-in-End
returns-in-End c =
    let all = lexemes c.args.tokens.now in
    let gate = form_of c.in-Heading.heading (map body_sentence c.loop-body.body.items) in
    body_ends c.in-Heading.place gate all (lexemes c.loop-body.rest.now) c.in_ok-part-2.field-0 c.in-Some-2.part c.in-Some-2.end c.in-Some-2.is c.in-End.is
    (c.in_ok-part-2.ensures.next c.in-Heading.place gate all c.loop-body.invariant)

pub loop-body-smaller : goal.loop-body-smaller
loop-body-smaller c = body_smaller c.loop-body.rest.now c.in_ok-part-2.field-0 c.in-Some-2.part c.in-Some-2.end c.in-Some-2.is c.in_ok-part-2.ensures.behind

pub loop-body-preserved : goal.loop-body-preserved
loop-body-preserved c =
    let all = lexemes c.args.tokens.now in
    let gate = form_of c.in-Heading.heading (map body_sentence c.loop-body.body.items) in
    body_goes_on c.in-Heading.place c.in-Heading.heading all (lexemes c.loop-body.rest.now) c.loop-body.body.items c.push.new.self.items c.in-Statement-part.statement c.in_ok-part-2.field-0 c.in-Some-2.part c.in-Some-2.end
    c.in_ok-push-in-Statement-part.ensures.items c.in-Some-2.is c.in-Statement-part.is
    (c.in_ok-part-2.ensures.next c.in-Heading.place gate all c.loop-body.invariant)

pub returns : goal.returns
returns c =
    let all = lexemes c.args.tokens.now in
    let gate = form_of c.in-Heading.heading (map body_sentence c.loop-body.body.items) in
    let none : BeginNone all (lexemes c.loop-body.rest.now) =
    subst (IsNextInBody c.in-Heading.place gate all (lexemes c.loop-body.rest.now)) c.in_default-2.is (c.in_ok-part-2.ensures.next c.in-Heading.place gate all c.loop-body.invariant) in
    none.none
