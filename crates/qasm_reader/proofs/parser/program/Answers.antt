-- One statement more.
use Rattle.std.proofs.Common.{◌≡◌, subst, Result, Ok, Err}
use Rattle.std.specs.Result.{result_or}
use Rattle.qasm_lexer.specs.Tokens.{lexemes}
use Rattle.qasm_reader.specs.declared.error.ParseError.TheVariants.{NoMemory}
use Rattle.qasm_reader.specs.Internal.Parsing.{IsNext}
use Rattle.qasm_reader.proofs.Turns.{goes_on, smaller}
use Rattle.qasm_reader.proofs.parser.program.Goals as goal
use Rattle.qasm_reader.proofs.parser.program.Goals.{In-Some}

-- where another error is told, an answer that is none stays
same_ok : {T E D : Type 0} (r : Result T E) (error : D) (x : T) → Ok x ≡ result_or r (Err error) → r ≡ Ok x
same_ok (Ok y) error x e = cc
same_ok (Err cause) error x e = absurd cc

next : (c : In-Some) → IsNext (lexemes c.loop-elements.rest.now) c.in_ok-element.field-0
next c = rw (same_ok c.next_element.result NoMemory c.in_ok-element.field-0 c.in_ok-element.ensures) at c.next_element.ensures

pub loop-elements-smaller : goal.loop-elements-smaller
loop-elements-smaller c =
    smaller c.loop-elements.rest.now c.in-Some.end.now c.in-Some.element
    (subst (IsNext (lexemes c.loop-elements.rest.now)) c.in-Some.is (next (goal.at.loop-elements-smaller c).In-Some))

pub loop-elements-preserved : goal.loop-elements-preserved
loop-elements-preserved c =
    goes_on (lexemes c.args.tokens.now) c.loop-elements.rest.now c.in-Some.end.now c.loop-elements.elements.items c.push.new.self.items c.in-Some.element
    (rw (same_ok c.push.result NoMemory c.in_ok-or.field-0 c.in_ok-or.ensures) at c.push.ensures.items) c.loop-elements.invariant
    (subst (IsNext (lexemes c.loop-elements.rest.now)) c.in-Some.is (next (goal.at.loop-elements-preserved c).In-Some))
