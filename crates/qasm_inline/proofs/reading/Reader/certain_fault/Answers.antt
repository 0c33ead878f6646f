-- A part's end is among the tokens.
use Rattle.std.proofs.Common.{◌≡◌, true, sym, ap, ◌∙◌, subst}
use Rattle.qasm_lexer.specs.Tokens.{lexemes}
use Rattle.qasm_reader.specs.Parts.{has_end}
use Rattle.qasm_inline.specs.Internal.Readings.{IsReadSoFar, open_place}
use Rattle.qasm_inline.proofs.ReadingLemmas.{certain-kept}
use Rattle.qasm_inline.proofs.reading.Reader.certain_fault.Goals as goal

pub returns-then-has_end : goal.returns-then-has_end
returns-then-has_end c = λ all taken.
    let self = c.args.self.now in
    let tokens = c.args.tokens.now.items in
    let fault = c.open_place-fault.result in
    let end : has_end (lexemes tokens) ≡ true = ap (λ ts. has_end (lexemes ts)) (sym c.deref.ensures.value) ∙ sym c.has_end.ensures ∙ c.if-has_end.true in
    let place : fault ≡ open_place self.gate (lexemes tokens) =
    c.open_place-fault.ensures ∙ ap (λ ts. open_place self.gate (lexemes ts)) c.deref-then-has_end.ensures.value in
    subst (λ ts. IsReadSoFar fault all self.gate self.circuit (lexemes ts)) (sym c.clear.ensures.items)
    (certain-kept all (lexemes tokens) self.gate self.circuit fault taken end place)
