-- The whole text is read.
use Rattle.qasm_inline.proofs.PieceLemmas.{bad_whole, read_whole}
use Rattle.qasm_inline.proofs.reading.read.Goals as goal

pub returns : goal.returns
returns c =
    let text = c.args.text.now in
    record {
      answers = c.answer.ensures text (read_whole text _ _ _ c.new-reader.ensures c.read_text-told.ensures.read)
          (bad_whole text _ c.read_text-told.ensures.bad_byte);
    }
