-- The start of the text.
use Rattle.std.proofs.Common.{[], None, sym, subst}
use Rattle.qasm_lexer.specs.Tokens.{lexemes}
use Rattle.qasm_inline.specs.Internal.Readings.{IsReadSoFar}
use Rattle.qasm_inline.proofs.ReadingLemmas.{nothing-taken}
use Rattle.qasm_inline.proofs.reading.Reader.new.Goals as goal

pub returns : goal.returns
returns c = record {
  deep = c.start.ensures;
  kept = subst (λ ts. IsReadSoFar None [] None c.new.result (lexemes ts)) (sym c.new-2.ensures.items) (nothing-taken c.new.result c.new.ensures);
}
