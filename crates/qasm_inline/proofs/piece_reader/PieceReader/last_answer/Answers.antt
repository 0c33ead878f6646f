-- The bytes that weren't read are the last ones.
use Rattle.std.proofs.lemmas.Result.{on_ok_weaker}
use Rattle.qasm_inline.proofs.piece_reader.PieceReader.last_answer.Goals as goal

pub returns : goal.returns
returns c = λ text off.
    c.answer.ensures text (on_ok_weaker c.read_on-told.result (λ read. (read.0, read.1, read.2)) (c.read_on-told.ensures.read text off))
    (λ at e. c.read_on-told.ensures.bad_byte text at off e)
