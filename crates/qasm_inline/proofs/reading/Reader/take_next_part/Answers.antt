-- The part that was read, or none.
use Rattle.std.specs.Prelude.{IfSome}
use Rattle.std.proofs.Common.{◌≡◌, Ok, None, sym, subst, rules}
use Rattle.qasm_lexer.specs.Tokens.{lexemes}
use Rattle.qasm_reader.specs.Parts.{IsBehind, IsFirstPart}
use Rattle.qasm_inline.specs.Internal.Readings.{AreTaken}
use Rattle.qasm_inline.proofs.ReadingLemmas.{none-between, rest_is, some_taken}
use Rattle.qasm_inline.proofs.reading.Reader.take_next_part.Goals as goal

pub returns-in-Some-clause-taken : goal.returns-in-Some-clause-taken
returns-in-Some-clause-taken c = λ all taken.
    let behind = subst (λ read. IfSome read (λ x. IsBehind (lexemes x.1.now) (lexemes c.args.tokens.now))) c.in-Some.is c.in_ok-part.ensures.behind in
    let later = c.take_part.new.self in
    subst (AreTaken all later.gate later.circuit) (sym (rest_is c.args.tokens.now c.in-Some.rest.now behind))
    (c.take_part.ensures all (lexemes c.args.tokens.now) (lexemes c.in-Some.rest.now)
    (subst (λ read. IfSome read (λ x. IsFirstPart x.0 (lexemes c.args.tokens.now) (lexemes x.1.now))) c.in-Some.is c.in_ok-part.ensures.found) taken)

pub returns-in-Some-clause-some : goal.returns-in-Some-clause-some
returns-in-Some-clause-some c =
    some_taken c.args.tokens.now c.in-Some.rest.now
    (subst (λ read. IfSome read (λ x. IsBehind (lexemes x.1.now) (lexemes c.args.tokens.now))) c.in-Some.is c.in_ok-part.ensures.behind)

pub returns-in-None-clause-taken : goal.returns-in-None-clause-taken
returns-in-None-clause-taken c = λ all taken.
    let none : c.next_part.result ≡ Ok None = search rules in
    none-between all (lexemes c.args.tokens.now) c.args.self.now.gate c.args.self.now.circuit c.requires taken (c.next_part.ensures.none none)
