-- Parentheses are too deep, there is a syntax fault, or the text is a program.
use Rattle.std.proofs.Common.{◌≡◌, Some, None, sym, ap, ◌∙◌, subst}
use Rattle.std.specs.Option.{option_or}
use Rattle.qasm_lexer.specs.Tokens.{lexemes}
use Rattle.qasm_reader.specs.Depth.{IsDepth}
use Rattle.qasm_inline.specs.Internal.Readings.{open_place}
use Rattle.qasm_inline.proofs.ReadingLemmas.{kept-fault, kept-whole}
use Rattle.qasm_inline.proofs.reading.Reader.grammar_fault.Goals as goal

pub returns-in-TooDeep : goal.returns-in-TooDeep
returns-in-TooDeep c = λ text all cut keeps. (all, cut, subst (λ depth. IsDepth depth all) c.in-TooDeep.is keeps.deep)

pub returns-in-Some : goal.returns-in-Some
returns-in-Some c = λ text all cut keeps.
    let self = c.args.self.now in
    let there : option_or self.fault (open_place self.gate (lexemes self.tokens.items)) ≡ Some c.in-Some.at =
    ap (λ ts. option_or self.fault (open_place self.gate (lexemes ts))) (sym c.deref.ensures.value) ∙ ap (option_or self.fault) (sym c.open_place.ensures) ∙ sym c.or.ensures ∙ c.in-Some.is in
    (all, cut, (subst (λ depth. IsDepth depth all) c.in-Open.is keeps.deep).0, kept-fault all (lexemes self.tokens.items) self.gate self.circuit self.fault c.in-Some.at keeps.kept there)

pub returns-in-None : goal.returns-in-None
returns-in-None c = λ text all cut keeps.
    let self = c.args.self.now in
    let none : option_or self.fault (open_place self.gate (lexemes self.tokens.items)) ≡ None =
    ap (λ ts. option_or self.fault (open_place self.gate (lexemes ts))) (sym c.deref.ensures.value) ∙ ap (option_or self.fault) (sym c.open_place.ensures) ∙ sym c.or.ensures ∙ c.in-None.is in
    let whole = kept-whole all (lexemes self.tokens.items) self.gate self.circuit self.fault keeps.kept none in
    let shallow = (subst (λ depth. IsDepth depth all) c.in-Open.is keeps.deep).0 in
    (whole.0, record { tokens = all; cut = cut; shallow = shallow; grammar = whole.1 }, whole.2)
