-- A bad byte is told as it was.
use Rattle.std.proofs.Common.{◌≡◌, Err, ap, sym, ◌∙◌}
use Rattle.std.proofs.lemmas.Result.{err_from_is_err_and}
use Rattle.qasm_lexer.specs.declared.errors.LexError.TheVariants.{BadByte}
use Rattle.qasm_inline.proofs.reading.lex_statements.Goals as goal

pub returns-in_err-end-clause-bad_byte : goal.returns-in_err-end-clause-bad_byte
returns-in_err-end-clause-bad_byte c = λ before at cut e.
    let p = err_from_is_err_and c.from_residual.result c.from_residual.ensures.1 in
    let same : c.lex_further.result ≡ Err (BadByte at) = c.in_err-end.was ∙ ap Err (sym p.2) ∙ sym p.1 ∙ e in
    c.lex_further.ensures.bad_byte before at cut same

pub returns-in_err-end-2-clause-bad_byte : goal.returns-in_err-end-2-clause-bad_byte
returns-in_err-end-2-clause-bad_byte c = λ before at cut e.
    let p = err_from_is_err_and c.from_residual-in_err-end-2.result c.from_residual-in_err-end-2.ensures.1 in
    let same : c.lex_further-in-loop-end.result ≡ Err (BadByte at) = c.in_err-end-2.was ∙ ap Err (sym p.2) ∙ sym p.1 ∙ e in
    c.lex_further-in-loop-end.ensures.bad_byte before at (c.loop-end.invariant.cut before cut) same
