-- No part begins the tokens that are left.
use Rattle.std.proofs.Common.{◌≡◌, ◌-◌, None, length, take, drop, sym, ap, ◌∙◌, subst, arith}
use Rattle.std.proofs.lemmas.Grind.{common_steps}
use Rattle.std.proofs.lemmas.List.{take_rest}
use Rattle.qasm_lexer.specs.Tokens.{lexemes}
use Rattle.qasm_inline.specs.Internal.Readings.{AreTaken, IsReadSoFar}
use Rattle.qasm_inline.proofs.ReadingLemmas.{none-next}
use Rattle.qasm_inline.proofs.reading.Reader.take_parts.Goals as goal

pub returns : goal.returns
returns c = λ all taken.
    let n = c.loop-count.taken in
    let ts = c.deref.result.now in
    let later = c.take_next.new.self in
    let left : drop n c.args.tokens.now.items ≡ c.truncate.new.self.items = grind (arith, common_steps) in
    let slice : take (length ts - n) (drop n ts) ≡ drop n c.args.tokens.now.items = take_rest ts n ∙ ap (drop n) c.deref.ensures.value in
    subst (λ rest. IsReadSoFar None all later.gate later.circuit (lexemes rest)) (slice ∙ left)
    (none-next all later.gate later.circuit c.in_ok-count.field-0 (take (length ts - n) (drop n ts)) c.in_default.not-Some
    (c.in_ok-count.ensures.taken all
    (subst (λ rest. AreTaken all c.loop-count.self.gate c.loop-count.self.circuit (lexemes rest)) (sym slice) (c.loop-count.invariant.read all taken))))
