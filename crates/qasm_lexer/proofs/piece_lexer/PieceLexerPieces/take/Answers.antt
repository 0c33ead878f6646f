use Rattle.std.proofs.Common.{◌++◌, Err, sym, ap, ◌∙◌, subst}
use Rattle.qasm_lexer.specs.Taken.{CameWith}
use Rattle.qasm_lexer.proofs.piece_lexer.PieceLexerPieces.take.Goals as goal

pub returns-in-Ok-clause-taken : goal.returns-in-Ok-clause-taken
returns-in-Ok-clause-taken c = λ bytes taken _.
    let came = subst (λ fault. CameWith fault c.args.self.now bytes) c.in-None.is taken in
    subst (λ fault. CameWith fault c.take_further.new.self (bytes ++ c.args.piece.now)) (sym (c.in-Ok.ensures.fault ∙ c.in-None.is))
    (c.in-Ok.ensures.taken bytes came)

pub returns-in-Err-BadByte-clause-taken : goal.returns-in-Err-BadByte-clause-taken
returns-in-Err-BadByte-clause-taken c = λ bytes taken _.
    let came = subst (λ fault. CameWith fault c.args.self.now bytes) c.in-None.is taken in
    c.in-Err-BadByte.ensures.bad_byte bytes c.in-Err-BadByte.at came (ap Err c.in-Err-BadByte.field-0-is)
