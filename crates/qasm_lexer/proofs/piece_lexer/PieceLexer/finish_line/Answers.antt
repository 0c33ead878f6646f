use Rattle.std.proofs.Common.{◌≡◌, Err, sym, ap, ◌∙◌}
use Rattle.std.proofs.lemmas.Result.{err_from_is_err_and}
use Rattle.qasm_lexer.specs.declared.errors.LexError.TheVariants.{BadByte}
use Rattle.qasm_lexer.proofs.piece_lexer.PieceLexer.finish_line.Goals as goal

pub returns-in_err-end_line-clause-bad_byte : goal.returns-in_err-end_line-clause-bad_byte
returns-in_err-end_line-clause-bad_byte c = λ bytes at begun e.
    let p = err_from_is_err_and c.from_residual.result c.from_residual.ensures.1 in
    let whole = ap Err (sym p.2) ∙ sym p.1 ∙ e in
    let same : c.in_err-end_line.field-0.0 ≡ BadByte at = cc in
    c.in_err-end_line.ensures.bad_byte bytes at begun (ap Err same)
