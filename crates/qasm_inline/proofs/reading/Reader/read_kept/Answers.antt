-- A fault that was certain, or what is read on.
use Rattle.std.proofs.Common.{◌++◌, Some, sym, subst}
use Rattle.qasm_lexer.specs.Tokens.{lexemes}
use Rattle.qasm_inline.specs.Internal.Readings.{AreTaken, IsReadSoFar}
use Rattle.qasm_inline.proofs.ReadingLemmas.{still-certain, taken-more}
use Rattle.qasm_inline.proofs.reading.Reader.read_kept.Goals as goal

pub returns-in-Some : goal.returns-in-Some
returns-in-Some c = λ all known more e is.
    let self = c.args.self.now in
    let certain = subst (λ fault. IsReadSoFar fault all self.gate self.circuit known) c.in-Some.is is in
    subst (λ ts. IsReadSoFar (Some c.in-Some.at) (all ++ more) self.gate self.circuit (lexemes ts)) (sym c.clear.ensures.items)
    (still-certain all known more self.gate self.circuit c.in-Some.at certain)

pub returns-in_ok-take_parts-in-None : goal.returns-in_ok-take_parts-in-None
returns-in_ok-take_parts-in-None c = λ all known more e is.
    let self = c.args.self.now in
    let taken = subst (λ fault. IsReadSoFar fault all self.gate self.circuit known) c.in-None.is is in
    c.certain_fault.ensures (all ++ more) (c.in_ok-take_parts-in-None.ensures (all ++ more)
    (subst (AreTaken (all ++ more) self.gate self.circuit) (sym e) (taken-more all known more self.gate self.circuit taken)))
