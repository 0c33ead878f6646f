use Rattle.std.proofs.Common.{◌∙◌, ◌+◌, length-set, arith}
use Rattle.zx_bits.specs.Internal.Windows.{word_at}
use Rattle.zx_bits.proofs.WindowLemmas.{kept_next, kept_whole}
use Rattle.zx_bits.proofs.window.keep_words.Goals as goal

pub loop-i-preserved : goal.loop-i-preserved
loop-i-preserved c = record {
  size = length-set c.loop-i.words c.loop-i.i _ ∙ c.loop-i.invariant.size;
  words = kept_next c.args.words.now c.loop-i.words (λ v. word_at c.args.row.now (c.args.offset + v)) c.loop-i.i c.word.result
      (omega (arith, c.loop-i-test.true, c.loop-i.invariant.size)) c.word.ensures c.loop-i.invariant.words;
}

pub returns-clause-words : goal.returns-clause-words
returns-clause-words c v =
    c.loop-i.invariant.words v ∙ kept_whole c.args.words.now (λ i. word_at c.args.row.now (c.args.offset + i)) c.loop-i.i v c.loop-i-test.false
